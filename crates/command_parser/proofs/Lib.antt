pub mod Tabled
pub mod FieldsLawful
pub mod Views
pub mod OneCommand
pub mod Spelled
pub mod Written
mod CommandRows
