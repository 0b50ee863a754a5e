pub mod Bindings
pub mod Cuts
pub mod Jumps
pub mod Nodes
pub mod Places
pub mod Seen
pub mod Sights
pub mod Indexes
