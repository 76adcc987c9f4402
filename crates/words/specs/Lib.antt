-- Words for sheets: the grammar, the reader as a fold over bytes, and the writer. The laws stand in proofs/.
pub mod Types
pub mod Grammar
pub mod Scan
pub mod Say
pub mod Faults
pub mod Sheets
pub mod Tell
