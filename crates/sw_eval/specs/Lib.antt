pub mod Means
pub mod Lower
pub mod Body_laws
pub mod Resume
pub mod Growing
