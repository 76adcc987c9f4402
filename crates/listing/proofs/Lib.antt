-- Laws that the proofs of listing cite. Assumes nothing.
pub mod Printed
pub mod Taken
