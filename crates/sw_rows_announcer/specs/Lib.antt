pub mod Announcing
pub mod Turns
pub mod Laws
