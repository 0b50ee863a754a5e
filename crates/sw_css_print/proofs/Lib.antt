mod Examples
pub mod Joins
pub mod Groups
pub mod Indents
