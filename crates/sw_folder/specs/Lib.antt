pub mod Paths
pub mod Files
pub mod Table
pub mod Edits
pub mod Resolution
