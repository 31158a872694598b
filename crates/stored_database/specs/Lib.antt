pub mod Making
pub mod Filling
