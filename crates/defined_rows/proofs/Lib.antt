pub mod PairLaws
pub mod PlaceLaws
pub mod KeptLaws
pub mod ChangeLaws
