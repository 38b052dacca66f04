pub mod Search
pub mod Working
pub mod Placing
