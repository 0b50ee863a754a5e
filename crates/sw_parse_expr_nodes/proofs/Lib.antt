pub mod Collected
pub mod TextPieces
pub mod Cuts
