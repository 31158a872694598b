pub mod Groups
pub mod Verify
pub mod KeptGroups
