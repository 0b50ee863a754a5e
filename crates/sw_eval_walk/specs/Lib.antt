pub mod Going
pub mod Texts
pub mod Variables
pub mod Callees
pub mod Arguments
pub mod Existence
pub mod Hosts
