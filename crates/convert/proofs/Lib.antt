pub mod Exits
pub mod Renewing
