pub mod Without
pub mod LinkLaws
pub mod Joining
pub mod InsertLaws
pub mod Keeping
pub mod Holding
