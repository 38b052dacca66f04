pub mod Passing
pub mod Sweep
pub mod CollectExits
