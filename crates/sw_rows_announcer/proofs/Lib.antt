pub mod Announced
pub mod Engines
