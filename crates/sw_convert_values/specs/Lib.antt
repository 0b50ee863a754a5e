pub mod Values
pub mod ReadsBack
