pub mod Names
pub mod Pairs
pub mod Lookups
pub mod Changes
pub mod Deep
pub mod Calls
