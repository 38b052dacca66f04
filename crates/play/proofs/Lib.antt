pub mod Told
pub mod FreshList
pub mod FreshLent
