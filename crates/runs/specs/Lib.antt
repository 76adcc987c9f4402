-- What the theorems over runs speak of. A folder for each subject, as in proofs/, where the theorems stand.
pub mod Types
pub mod Walk
pub mod Times
pub mod Orphans
pub mod Promises
pub mod Events
pub mod Operations
pub mod Moves
pub mod Commits
pub mod Order
pub mod Whole
