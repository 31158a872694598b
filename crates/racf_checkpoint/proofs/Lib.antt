mod Appending
mod Compacting
mod Finding
mod Formats
mod New
mod NoOlder
mod Saying
pub mod Syncing
mod Seeing
mod Turning
mod WorkedRows
