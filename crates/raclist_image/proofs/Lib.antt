pub mod Places
pub mod PutKinds
pub mod Copied
mod ClassPlaces
mod Placing
mod Found
mod Keyed
