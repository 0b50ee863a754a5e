pub mod Hearing
pub mod Hubs
pub mod Memory
