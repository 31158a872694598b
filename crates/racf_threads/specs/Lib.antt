pub mod Outputs
pub mod Working
pub mod Together
