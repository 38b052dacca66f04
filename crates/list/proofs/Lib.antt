pub mod Cursors
pub mod ReaderLaws
