-- Definitions for what people with a handle or a station's promise rely on.
pub mod Definitions
