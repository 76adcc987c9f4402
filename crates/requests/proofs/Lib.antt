-- Nine objects at most, and laws that the proofs of requests cite. Assumes nothing.
pub mod NineObjects
mod Numbers
mod Objects
mod Together
mod Spaces
mod Walk
