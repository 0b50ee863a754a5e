pub mod Rows
pub mod Decided
pub mod Gaps
