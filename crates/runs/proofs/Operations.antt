-- What one step does, of any tables: what an operation finds and leaves, what a call says, what a reply answers,
-- when a delivery comes and how a message is stamped, by what an object is let go, what becomes of one that is held, and what a crash strikes, a sweep takes and a terminate unmarks.
pub mod Single
pub mod Operated
pub mod Invoked
pub mod Delivered
pub mod Mail
pub mod Waits
pub mod Replied
pub mod HeldAway
pub mod LetGo
pub mod Freed
pub mod HeldObject
pub mod Stamped
pub mod Turned
pub mod Struck
pub mod Life
pub mod Clocked
