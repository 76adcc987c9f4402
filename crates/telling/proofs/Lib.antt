-- Laws that the proofs of telling cite. Assumes nothing.
pub mod Lines
pub mod Phrases
pub mod Numbers
pub mod Taken
