pub mod ClearLaws
pub mod AllowLaws
pub mod RetireLaws
