pub mod Letters
pub mod Skips
pub mod Spelled
mod TokenRows
pub mod BeforeFirst
pub mod LineWordLaws
pub mod Openings
pub mod Spellings
