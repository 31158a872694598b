pub mod Counted
pub mod NewProfiles
pub mod NewLimits
