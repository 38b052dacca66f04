pub mod Storing
pub mod Rewriting
