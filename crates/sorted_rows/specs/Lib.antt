pub mod Sorted
pub mod Found
