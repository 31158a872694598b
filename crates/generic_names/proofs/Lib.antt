pub mod Bools
mod QualifierLaws
mod FaultLaws
pub mod CoverLaws
mod WalkLaws
mod RankLaws
mod ReplaceLaws
pub mod Lawful
pub mod OrderLaws
pub mod FirstLaws
mod CompareLaws
mod GapLaws
pub mod BestLaws
pub mod MostSpecific
pub mod Apart
pub mod KeyLaws
pub mod UnderLaws
mod KeyRows
mod DiscreteKeys
pub mod FaultlessLaws
