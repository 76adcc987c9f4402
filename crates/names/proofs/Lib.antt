-- What looking up an object hands back, and laws that the proofs of names cite. Assumes nothing.
pub mod HandedBack
mod Lines
