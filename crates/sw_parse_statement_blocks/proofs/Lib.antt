pub mod Braces
pub mod Collected
pub mod Repeated
pub mod Made
pub mod Prepended
pub mod Declared
