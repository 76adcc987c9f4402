-- Definitions for what the machine is for.
pub mod Definitions
