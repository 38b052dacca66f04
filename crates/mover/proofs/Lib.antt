pub mod MoveLaws
pub mod ChangeLaws
