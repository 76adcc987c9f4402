-- Laws that the proofs of grammar cite. Assumes nothing.
pub mod Rows
