pub mod Names
pub mod Rounding
pub mod Extremes
pub mod Quotients
pub mod Calls
