pub mod Logged
pub mod Line
pub mod Writing
pub mod Feedless
pub mod OneLine
