pub mod Appending
pub mod Kept
pub mod Opening
pub mod Reading
pub mod Repair
