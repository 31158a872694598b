pub mod Kept
pub mod Recovering
