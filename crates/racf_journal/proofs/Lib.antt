mod Appends
pub mod Behind
mod Files
mod Opens
mod Parts
pub mod Places
mod Repairs
pub mod Rests
mod Scans
mod Walks
mod WorkedRows
