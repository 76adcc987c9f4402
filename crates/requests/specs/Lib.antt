-- The text of a request, and what it asks. Assumes nothing.
pub mod Requests
pub mod RequestsLaws
pub mod Walk
