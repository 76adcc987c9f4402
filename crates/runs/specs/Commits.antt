-- Definitions for what a commit rests on and what it leaves.
pub mod Definitions
pub mod Vow
