pub mod Passed
pub mod Exits
