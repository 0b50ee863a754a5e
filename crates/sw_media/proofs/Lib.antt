pub mod Counts
pub mod Loops
pub mod Pairs
pub mod Derives
pub mod Whole
