pub mod Table
pub mod Stamps
pub mod Records
pub mod Slots
pub mod Taking
