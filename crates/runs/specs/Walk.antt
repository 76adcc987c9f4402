-- Definitions for a law over a step and along a run.
pub mod Put
pub mod Says
pub mod Seen
