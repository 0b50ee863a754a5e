pub mod Choices
pub mod Parts
pub mod Forwards
pub mod Plain
pub mod CallableChoices
pub mod CallableParts
pub mod Taken
