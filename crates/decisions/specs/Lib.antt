-- What a trip through a site's slots counts, with the laws of its turns. Assumes nothing.
pub mod Turns
pub mod TurnsLaws
