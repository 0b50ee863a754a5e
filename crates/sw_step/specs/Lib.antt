pub mod Joint
pub mod Under
