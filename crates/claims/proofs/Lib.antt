pub mod kept
pub mod claims
pub mod views
pub mod plain
pub mod agreement
pub mod form
