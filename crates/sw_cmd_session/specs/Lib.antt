pub mod Sheets
pub mod Script
pub mod Transcript
pub mod Lines
pub mod Served
