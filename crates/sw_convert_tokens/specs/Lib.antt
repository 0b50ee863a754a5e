pub mod Joints
pub mod Written
pub mod Values
pub mod Words
pub mod Variables
pub mod Numbers
pub mod Calls
