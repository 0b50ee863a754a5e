pub mod Repeated
pub mod Choices
