pub mod Choices
pub mod Loads
pub mod Uses
pub mod PlainRaw
