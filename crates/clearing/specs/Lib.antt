-- The clearance check: what it refuses by itself, its steps in their order, what it says; and what its words rest on. Assumes nothing.
pub mod Question
pub mod Clearing
pub mod Underway
pub mod Begun
pub mod Ends
pub mod HeldTogether
pub mod Said
