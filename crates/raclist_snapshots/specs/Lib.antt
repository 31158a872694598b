pub mod Publishing
pub mod Kept
