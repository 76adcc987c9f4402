-- The rules of document 01, with what document 02 has changed of them, as definitions in its order and words.
-- Types (names only), then one file a subject. LoopsLaws, LoopsLists, AnswersLaws and StoredLaws hold laws about the definitions of their names; all other laws stand in proofs/.
pub mod Types
pub mod Limits
pub mod Loops
pub mod LoopsLaws
pub mod LoopsLists
pub mod Tables
pub mod Ranges
pub mod Answers
pub mod AnswersLaws
pub mod Parts
pub mod Seen
pub mod Checks
pub mod Stations
pub mod Passages
pub mod Rounds
pub mod Calls
pub mod Machine
pub mod StoredLaws
pub mod Sane
pub mod Record
pub mod Runs
pub mod Events
pub mod Sheet
pub mod Listing
pub mod Rows
pub mod Cases
