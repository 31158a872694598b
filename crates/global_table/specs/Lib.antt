pub mod Grants
pub mod Steps
