pub mod Stepping
pub mod Compiled
pub mod Standing
pub mod Steps
pub mod Bodies
pub mod Moves
pub mod Under
