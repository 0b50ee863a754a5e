mod Quotients
mod Shapes
mod Firsts
mod UrlCalls
pub mod Starts
pub mod Stops
mod ReservedWords
pub mod Reserved
mod Called
mod InTexts
mod Single
mod Strings
pub mod Values
pub mod ReadsBack
