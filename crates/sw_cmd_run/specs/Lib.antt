pub mod Poll
pub mod Listings
pub mod Served
pub mod Run
