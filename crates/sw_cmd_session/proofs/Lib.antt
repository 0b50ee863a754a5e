pub mod Turning
pub mod Following
