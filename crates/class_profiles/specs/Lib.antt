pub mod Table
pub mod Paired
pub mod Classes
pub mod Counted
pub mod Summed
