pub mod Bounds
pub mod Progress
pub mod PieceLemmas
pub mod ScanLemmas
pub mod StopLemmas
