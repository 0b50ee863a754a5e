pub mod Opens
pub mod RawTexts
pub mod Comments
pub mod Held
pub mod Layout
pub mod Lines
