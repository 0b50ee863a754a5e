pub mod Alone
pub mod Binding
pub mod Forms
pub mod Readings
