pub mod Folding
mod LineRows
mod RequestRows
mod IssuerRows
pub mod NumberLaws
pub mod RowLaws
mod FeedlessDecisions
mod FeedlessLines
mod FeedlessWorked
