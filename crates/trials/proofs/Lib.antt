-- What holds of the second table of cases.
pub mod Trials
