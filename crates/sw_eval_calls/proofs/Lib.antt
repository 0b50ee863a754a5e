pub mod Items
pub mod Answering
pub mod Tests
pub mod Unrolled
pub mod Arguments
pub mod Written
pub mod Placed
