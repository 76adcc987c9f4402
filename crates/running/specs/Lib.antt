-- What the answers of a run are, and what a turn of a record's work does to the tables. Assumes nothing.
pub mod Answered
pub mod Turn
