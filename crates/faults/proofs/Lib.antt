-- Laws that the proofs of faults cite. Assumes nothing.
pub mod Finding
pub mod Choices
