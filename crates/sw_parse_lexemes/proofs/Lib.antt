pub mod Walks
pub mod Below
pub mod Cursors
pub mod Listed
pub mod Lies
mod Examples
pub mod Firsts
pub mod Passing
mod Turns
mod Around
pub mod Knowing
mod Laws
pub mod NameLaws
mod WordLaws
