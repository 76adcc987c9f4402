-- What happened, as a list: its definitions over a run.
pub mod Uses
