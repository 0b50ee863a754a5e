pub mod Specials
