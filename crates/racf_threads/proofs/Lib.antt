mod Seats
mod Statuses
mod Gathers
mod Works
mod Runs
mod Idle
mod Parts
mod Rests
mod Captures
pub mod Gave
mod Entries
mod Doubts
mod Turns
pub mod Own
mod WorkedRows
