pub mod Core
pub mod Replies
pub mod Disks
pub mod Kept
