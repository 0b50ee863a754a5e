pub mod TextOpens
pub mod Hosted
pub mod BuiltInCalls
pub mod Held
pub mod Mixins
