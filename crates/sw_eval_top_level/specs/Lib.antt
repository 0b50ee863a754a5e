pub mod Taking
pub mod Loading
pub mod Tops
pub mod Walks
