pub mod Days
pub mod Slots
pub mod Records
