mod Pieces
mod Features
mod Queries
mod Media
mod Lines
mod Comments
mod Filters
mod Loads
mod Configurations
pub mod Sheets
