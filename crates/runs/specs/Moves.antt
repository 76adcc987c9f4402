-- Definitions for how a store moves the passage that it is for.
pub mod Definitions
