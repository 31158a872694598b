pub mod Imaged
pub mod Facts
pub mod Flags
pub mod GlobalMembers
pub mod KeptClasses
pub mod KeptState
pub mod KeptImage
pub mod PlacedNames
