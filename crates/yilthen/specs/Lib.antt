pub mod AtRest
pub mod Errors
