pub mod RowLaws
pub mod Rows
pub mod Told
