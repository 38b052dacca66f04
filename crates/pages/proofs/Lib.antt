pub mod Decimal
pub mod Lines
pub mod PageLaws
pub mod Case
