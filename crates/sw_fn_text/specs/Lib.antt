pub mod Names
pub mod Cases
pub mod Places
pub mod Pieces
pub mod Calls
