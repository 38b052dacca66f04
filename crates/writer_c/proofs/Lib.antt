pub mod WriteExits
