pub mod StoringLaws
pub mod CloseLaws
pub mod BackupLaws
pub mod Exported
