pub mod Keeping
mod NoneBefore
mod WorkedRows
pub mod Digits
pub mod Feedless
pub mod FeedlessNames
pub mod FeedlessLine
