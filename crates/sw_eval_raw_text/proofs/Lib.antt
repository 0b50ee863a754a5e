pub mod Spaced
pub mod Cuts
pub mod WhiteSpace
pub mod CutLaws
pub mod Imported
pub mod Extremes
