pub mod Kept
pub mod Replay
pub mod Together
pub mod Ran
pub mod Tails
