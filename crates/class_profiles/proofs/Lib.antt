pub mod Order
mod Pairs
pub mod Counts
mod Places
mod Changes
mod Dynamic
mod NewClasses
