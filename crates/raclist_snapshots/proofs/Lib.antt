pub mod Marks
mod Rooms
