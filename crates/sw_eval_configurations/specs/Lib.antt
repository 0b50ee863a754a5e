pub mod Loads
pub mod Passing
