-- Laws that the proofs of saying cite. Assumes nothing.
pub mod Pieces
