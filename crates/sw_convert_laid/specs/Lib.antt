pub mod Heads
pub mod Rows
pub mod LineFeeds
pub mod Blocks
pub mod Held
