pub mod Answers
pub mod First
pub mod Bucket
pub mod Indexed
pub mod Finding
pub mod FarEnd
