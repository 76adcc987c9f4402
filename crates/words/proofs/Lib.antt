-- Words for sheets: the reader and the writer each give back what the other was given.
pub mod Spelling
pub mod ScanLaws
pub mod StepLaws
pub mod RecordLaws
pub mod TextLaws
pub mod SheetsLaws
pub mod ReadLaws
pub mod TripLaws
pub mod KeptLaws
pub mod LineLaws
pub mod AnswerLaws
pub mod NumberLaws
pub mod FaultLaws
