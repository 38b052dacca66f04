pub mod Changes
pub mod Writer
pub mod Passing
pub mod Runs
pub mod RoundTrip
