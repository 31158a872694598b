pub mod Asked
pub mod Classification
pub mod Table
pub mod Steps
pub mod Made
pub mod Verify
