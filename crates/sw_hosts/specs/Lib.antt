pub mod Kinds
pub mod Names
pub mod Tables
pub mod Seats
