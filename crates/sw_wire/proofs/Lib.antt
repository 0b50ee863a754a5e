pub mod Every
pub mod Spaces
pub mod Digits
pub mod Plain
pub mod LoadPaths
