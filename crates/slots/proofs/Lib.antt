pub mod DayLaws
pub mod SlotLaws
pub mod RecordLaws
