-- Who holds an object has a visit at its site.
pub mod HeldStore
pub mod HeldSteps
pub mod Holders
