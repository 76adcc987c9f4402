-- What a commit rests on and what it leaves: a passage that is over stays over, and a commit is whole.
pub mod VowLaws
pub mod VowKept
pub mod Pledged
pub mod Since
pub mod Over
pub mod Closes
pub mod Telling
pub mod Told
pub mod Word
