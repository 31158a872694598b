pub mod IssuerLaws
mod OutcomeRows
mod RecoveryRows
pub mod RecoveryLaws
mod AcceptedLaws
pub mod IdleLaws
pub mod FeedlessFields
mod FeedlessRows
mod FeedlessCopies
mod FeedlessConflicts
mod FeedlessNeeds
mod FeedlessOutcomes
mod Readings
mod FeedlessImages
mod FeedlessFiles
mod FeedlessReached
