pub mod Nexts
pub mod Putting
