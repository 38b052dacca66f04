-- The claims of specs/Claims.antt, proved.
pub mod FoundBlocks
pub mod BackupCounts
pub mod CollectLaws
pub mod AuditMeans
pub mod CollectTwice
pub mod Proved
pub mod PowerCut
pub mod ReadPlaces
