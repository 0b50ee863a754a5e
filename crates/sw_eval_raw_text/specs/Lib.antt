pub mod Numerals
pub mod Imports
pub mod Spacing
pub mod Cutting
pub mod Special
