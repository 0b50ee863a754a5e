pub mod Frames
pub mod Stack
pub mod Cut
pub mod Scopes
pub mod Passed
pub mod Bind
pub mod Index
