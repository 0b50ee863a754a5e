pub mod RawText
pub mod Comments
pub mod Expressions
pub mod Statements
pub mod Told
