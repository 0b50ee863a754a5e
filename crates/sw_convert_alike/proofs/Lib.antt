pub mod Symmetric
pub mod Reflexive
pub mod Sheets
pub mod AsTheyStand
pub mod Told
