pub mod Puts
pub mod Edits
