-- How many records a sheet has. Assumes nothing.
pub mod Few
