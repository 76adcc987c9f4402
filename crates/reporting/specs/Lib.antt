-- What a clearance check says, as a text, and at most how long its parts are. Assumes nothing.
pub mod Report
pub mod Lengths
