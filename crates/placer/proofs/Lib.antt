pub mod SearchLaws
pub mod Finding
pub mod Indexing
pub mod PoolLaws
pub mod PlaceLaws
