pub mod Rows
pub mod Whole
pub mod Dashes
pub mod Vecs
