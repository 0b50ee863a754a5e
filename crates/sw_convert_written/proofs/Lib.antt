pub mod Unrolled
pub mod Joins
pub mod UnrolledStatements
pub mod Tops
