pub mod Files
pub mod Counting
pub mod Compacting
pub mod Made
pub mod Baring
