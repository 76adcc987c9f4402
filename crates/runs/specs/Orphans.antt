-- Definitions for demand 3, for what is watched of an orphan along a run, and for the widths that stand.
pub mod Orphans
pub mod Clears
pub mod Watch
pub mod Widths
