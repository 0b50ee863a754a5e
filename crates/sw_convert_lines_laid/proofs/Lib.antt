pub mod Same
pub mod Fronts
pub mod Held
