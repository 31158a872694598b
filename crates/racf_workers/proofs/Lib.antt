mod Rows
mod DeckRows
pub mod LineLaws
pub mod Lengthened
pub mod FileWalk
pub mod DeckLaws
pub mod DeckWalk
