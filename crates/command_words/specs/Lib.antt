pub mod Bytes
pub mod Quotes
pub mod Tokens
pub mod Pieces
pub mod ValuedWords
pub mod FrontWords
pub mod LineWords
pub mod TakingWords
