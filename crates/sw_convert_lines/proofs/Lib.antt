pub mod Joins
pub mod Pieces
pub mod Unrolled
pub mod UnrolledStatements
pub mod Looks
pub mod Trims
pub mod Rules
pub mod Tops
