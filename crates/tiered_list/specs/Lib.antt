pub mod Tiered
pub mod Rows
