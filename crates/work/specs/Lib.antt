-- A record's work turn by turn, for a runner that holds the tables itself, with its laws. Assumes nothing.
pub mod Work
pub mod WorkLaws
