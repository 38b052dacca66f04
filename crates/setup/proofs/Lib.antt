pub mod FormatExits
pub mod EnrolExits
