-- Laws that the proofs of reading cite. Assumes nothing.
pub mod Answering
