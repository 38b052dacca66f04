pub mod BackupsPassed
pub mod AllowLaws
