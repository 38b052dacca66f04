pub mod Backups
pub mod Allowing
