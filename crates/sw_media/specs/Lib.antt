pub mod Features
pub mod Joining
pub mod Laws
pub mod Reading
pub mod Words
pub mod Writing
pub mod Grammar
