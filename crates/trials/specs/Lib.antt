-- The second table of cases, a file for each subject, and the claim over all of it.
pub mod Types
pub mod Commits
pub mod Promises
pub mod Rounds
pub mod Refreshes
pub mod Undone
pub mod Crashes
pub mod Mail
pub mod Refusals
pub mod Handed
pub mod Replies
pub mod Sheets
pub mod Trials
