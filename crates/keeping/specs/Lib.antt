pub mod After
pub mod Kept
