pub mod Counting
pub mod Kept
pub mod Made
pub mod MadeText
pub mod Tally
