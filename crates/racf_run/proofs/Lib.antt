pub mod AskLaws
pub mod CheckLaws
pub mod CompactLaws
pub mod DiskLaws
pub mod OpeningLaws
pub mod RunningLaws
mod Sent
pub mod TopLaws
mod Unsound
pub mod WordLaws
