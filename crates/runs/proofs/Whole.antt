-- What the machine is for: holds are kept until release, a commit rests on what stands, and a pair of changes stands or falls together.
pub mod Release
pub mod Running
pub mod RestsOn
pub mod ReadStands
pub mod HeldTogether
pub mod Whole
pub mod CommitIsWhole
pub mod NoCrash
pub mod Lost
pub mod Done
pub mod Sent
