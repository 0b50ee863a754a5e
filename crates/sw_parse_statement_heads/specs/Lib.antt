pub mod Heads
pub mod Rows
pub mod CallableHeads
pub mod CallableRows
