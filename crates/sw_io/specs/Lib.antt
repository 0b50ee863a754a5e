pub mod Causes
pub mod Memory
pub mod Reads
pub mod Lines
pub mod Ends
pub mod Disks
