pub mod KeyLaws
pub mod RowLaws
pub mod PlaceLaws
pub mod FoundLaws
