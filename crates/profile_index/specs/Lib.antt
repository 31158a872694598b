pub mod Indexed
pub mod Places
pub mod EntrySlots
pub mod Buckets
