pub mod Rows
pub mod Exits
