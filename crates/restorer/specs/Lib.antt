pub mod Promises
pub mod Befores
pub mod Reading
