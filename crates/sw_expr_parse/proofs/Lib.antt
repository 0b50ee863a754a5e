pub mod Choices
pub mod Repeated
pub mod Climb
pub mod Alone
pub mod Endings
pub mod Forms
