pub mod Terminals
mod Texts
