mod Disks
mod Making
mod Standing
pub mod Along
mod Serving
mod Telling
mod Replying
pub mod Closing
mod Says
pub mod Crossing
