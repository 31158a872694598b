pub mod Containing
pub mod OrderLaws
mod Rows
