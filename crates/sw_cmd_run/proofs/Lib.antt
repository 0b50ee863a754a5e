pub mod Following
pub mod Lines
pub mod Running
pub mod Scanning
pub mod Statuses
