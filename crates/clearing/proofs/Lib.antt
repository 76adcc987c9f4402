-- What the words of a clearance check rest on. Assumes nothing.
pub mod ListedLaws
pub mod ReadsLaws
pub mod Asks
pub mod Ends
pub mod HeldTogether
pub mod Said
