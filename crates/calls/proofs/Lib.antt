-- A law that the proofs of calls cite. Assumes nothing.
pub mod Received
