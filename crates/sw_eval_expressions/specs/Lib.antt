pub mod Choosing
pub mod Functions
pub mod Special
pub mod Calls
pub mod Expressions
pub mod Growing
