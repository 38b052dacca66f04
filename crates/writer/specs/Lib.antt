pub mod Elements
pub mod Promises
