pub mod Matching
pub mod TableMaps
pub mod Counts
pub mod MapsTaken
pub mod Entries
pub mod Passes
