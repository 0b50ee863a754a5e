pub mod Escapes
pub mod Names
pub mod Pieces
pub mod Signs
pub mod Expressions
pub mod Rules
pub mod Heads
pub mod Statements
