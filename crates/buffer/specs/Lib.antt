-- What putting a text into a buffer leaves, what a page is, and how long the listing's texts are. Assumes nothing.
pub mod Page
pub mod Text
