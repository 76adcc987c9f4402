-- Changes of one slot that keep the clauses: the frame law, a visit, its times, its calls, messages, the round, a passage's life.
pub mod Masks
pub mod Same
pub mod Shrunk
pub mod Visit
pub mod Times
pub mod Mail
pub mod Touched
pub mod Calls
pub mod Round
pub mod Open
pub mod Closing
pub mod Answered
pub mod Closed
pub mod Life
pub mod Deliver
