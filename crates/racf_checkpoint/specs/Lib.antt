pub mod Contents
pub mod Finding
pub mod Formatting
pub mod Stored
