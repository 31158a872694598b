pub mod Rows
pub mod Ways
pub mod Edits
pub mod Climbs
pub mod Stored
mod Listed
mod ScopeTests
