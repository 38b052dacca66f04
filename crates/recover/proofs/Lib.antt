pub mod RunningLaws
pub mod Copying
pub mod Exits
