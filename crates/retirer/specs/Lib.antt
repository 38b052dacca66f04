pub mod Promises
pub mod Clearing
pub mod Allowing
pub mod Closing
