-- How a law is shown over a step and along a run, and what is shown first: sound tables, clocks,
-- steps of a station that are sure to be accepted, and that what passrun runs is a run.
pub mod Plain
pub mod Steps
pub mod Sound
pub mod Clocks
pub mod Counted
pub mod Taken
pub mod PrintedRuns
