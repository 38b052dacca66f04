pub mod Pool
pub mod Expiries
pub mod Lasts
