pub mod CommandTable
pub mod Table
pub mod Reading
pub mod Canon
pub mod Parts
pub mod Lawful
