pub mod Promises
pub mod Storing
pub mod Closing
