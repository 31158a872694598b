pub mod Groups
pub mod Answers
pub mod Climb
pub mod Keyed
pub mod ScopeTest
