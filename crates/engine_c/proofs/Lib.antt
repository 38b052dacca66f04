pub mod ReadExits
