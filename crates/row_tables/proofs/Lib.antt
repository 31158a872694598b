pub mod RowLaws
pub mod Keyed
pub mod Counts
pub mod GroupLaws
pub mod Room
