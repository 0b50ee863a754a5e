pub mod Deeper
pub mod Inserts
