pub mod Opens
pub mod Contents
