pub mod Numbers
pub mod Lies
pub mod Urls
