-- Laws that parts' proofs cite. Assumes nothing.
pub mod Eight
