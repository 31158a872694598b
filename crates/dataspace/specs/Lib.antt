pub mod Placed
pub mod Rooms
pub mod Kept
