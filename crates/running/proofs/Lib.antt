-- Laws that the proofs of running cite. Assumes nothing.
pub mod Printed
pub mod Turned
