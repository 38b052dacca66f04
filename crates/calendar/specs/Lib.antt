pub mod Promises
pub mod Own
pub mod Row
