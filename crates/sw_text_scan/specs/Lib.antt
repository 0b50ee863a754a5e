pub mod Brackets
pub mod Bytes
pub mod Pieces
pub mod Runs
pub mod Words
