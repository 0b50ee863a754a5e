pub mod Answers
pub mod Sides
pub mod Joined
pub mod Operators
