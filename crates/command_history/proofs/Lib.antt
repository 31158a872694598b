pub mod Extensions
pub mod Leading
pub mod Marks
mod Makings
mod Steps
