mod JoinRows
pub mod Folds
pub mod CutLaws
pub mod Walk
pub mod Stops
pub mod RunLaws
pub mod MarkLaws
pub mod FrontLaws
pub mod StatementLaws
pub mod Pieces
pub mod Settling
pub mod Ending
mod OneLineLaws
