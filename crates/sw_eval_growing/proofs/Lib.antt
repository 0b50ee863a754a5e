pub mod Ends
pub mod Keys
pub mod Lists
pub mod Merging
pub mod Placed
