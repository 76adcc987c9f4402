-- Checks tried one after the other, and that this is the first of their list. Assumes nothing.
pub mod Order
pub mod OrderLaws
