-- Laws that the proofs of reporting cite. Assumes nothing.
pub mod Said
