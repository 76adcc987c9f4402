-- What the reader's contract says besides the definition. Assumes nothing.
pub mod RoundTrip
