-- Definitions for what one step does, of any tables.
pub mod Definitions
