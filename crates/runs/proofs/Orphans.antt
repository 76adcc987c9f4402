-- Demand 3: its definitions, what is watched of an orphan along a run, the sweep and the theorem, and that every station can be cleared;
-- then that an orphan's figures are undone.
pub mod WatchKept
pub mod WatchMailKept
pub mod WatchPassageKept
pub mod WatchVisitKept
pub mod WatchStore
pub mod WatchStations
pub mod WatchLife
pub mod WatchRounds
pub mod WatchCalls
pub mod WatchSteps
pub mod Swept
pub mod OrphansGone
pub mod Moment
pub mod DemandThree
pub mod DemandThreeForms
pub mod Cleared
pub mod Rests
pub mod RestSteps
pub mod Undone
