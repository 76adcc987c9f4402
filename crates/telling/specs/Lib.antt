-- The text of an answer by its two numbers, and how long each text is. Assumes nothing.
pub mod Numbers
pub mod Lengths
