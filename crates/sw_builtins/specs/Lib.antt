pub mod Tables
pub mod Shapes
pub mod Signatures
pub mod Written
pub mod Telling
pub mod Calls
