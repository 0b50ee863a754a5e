pub mod Nexts
pub mod Numbers
