pub mod Opens
pub mod IfCalls
pub mod Chosen
pub mod Changed
pub mod GivenUp
