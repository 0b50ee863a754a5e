pub mod Adding
pub mod Joints
