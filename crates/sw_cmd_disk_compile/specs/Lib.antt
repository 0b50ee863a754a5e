pub mod Watched
pub mod Once
