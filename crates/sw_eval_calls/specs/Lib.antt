pub mod Layers
pub mod CssCalls
pub mod Contents
pub mod Passing
pub mod Placing
