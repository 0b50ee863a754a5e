pub mod Saying
pub mod Turning
pub mod Numbers
pub mod Following
