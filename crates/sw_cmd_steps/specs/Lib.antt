pub mod Script
pub mod Transcript
pub mod Served
