pub mod Lines
pub mod RequestFile
pub mod Answering
pub mod Deck
pub mod Giving
