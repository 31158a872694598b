pub mod LineLaws
pub mod Numbering
pub mod Skipping
pub mod AskWalk
pub mod PlainLaws
pub mod AskEnds
mod Rows
