pub mod Tally
pub mod Pages
