pub mod Writing
pub mod Whole
pub mod Lengths
pub mod Recovering
