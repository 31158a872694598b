pub mod Packed
pub mod Bits
pub mod Missing
pub mod Numbered
pub mod SameWords
pub mod SpelledIds
pub mod Options
