pub mod Limits
pub mod Keys
pub mod Parts
mod Examples
