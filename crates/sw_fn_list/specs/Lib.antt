pub mod Names
pub mod Items
pub mod Places
pub mod Separators
pub mod Joining
pub mod Calls
