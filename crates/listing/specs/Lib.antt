-- The lines of a list of answers. Assumes nothing.
pub mod Lines
