pub mod Prefixes
pub mod Names
