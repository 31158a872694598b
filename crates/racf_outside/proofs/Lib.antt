pub mod Bytes
mod Doubts
mod HalfRows
mod HeldLaws
mod ImageRows
pub mod ImageTests
pub mod Images
pub mod LineLaws
mod LineRows
mod Replays
pub mod Rises
pub mod Runs
mod ScanLaws
mod SinceLaws
mod SlotLaws
