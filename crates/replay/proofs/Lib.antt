pub mod Bounds
pub mod JournalRead
pub mod StampLaws
pub mod RecordLaws
pub mod SlotLaws
