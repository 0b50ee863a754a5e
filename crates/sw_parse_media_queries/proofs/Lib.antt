pub mod Rows
pub mod Added
pub mod Choices
