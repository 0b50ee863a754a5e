pub mod Rows
pub mod Loads
