-- Laws of pages and of numbers as they are spelt. Assumes nothing.
pub mod Pages
mod Spelt
