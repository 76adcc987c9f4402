-- Definitions for the order of operations and lettings go.
pub mod Definitions
