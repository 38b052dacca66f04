pub mod Counts
pub mod Counted
pub mod Sums
