-- The line of an object in a station's list and the company's. Assumes nothing.
pub mod Names
pub mod NamesLaws
