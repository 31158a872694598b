pub mod Refreshing
pub mod AlterLaws
pub mod SpecialLaws
pub mod SpelledNames
mod WorkedRows
