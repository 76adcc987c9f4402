-- Laws that the proofs of scanning cite. Assumes nothing.
pub mod Stored
