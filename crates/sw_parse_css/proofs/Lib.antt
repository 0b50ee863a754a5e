pub mod Listed
pub mod Saying
pub mod Decided
pub mod Choices
pub mod Blocks
pub mod Named
pub mod Whole
