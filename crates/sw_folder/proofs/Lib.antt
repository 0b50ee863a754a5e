pub mod Segments
pub mod Walks
pub mod Tables
pub mod Marks
pub mod Folders
pub mod Choices
mod Copies
