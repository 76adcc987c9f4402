-- What people with a handle or a station's promise rely on.
pub mod Handles
pub mod Promised
pub mod HeldFast
pub mod Standing
