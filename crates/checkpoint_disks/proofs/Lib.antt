mod Barings
mod Bodies
mod Compacts
mod Contents
mod Counts
pub mod Fronts
mod HeadGates
pub mod Held
mod Orders
mod WorkedRows
