pub mod SlotReads
pub mod ExpiryLaws
pub mod LastLaws
