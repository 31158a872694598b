pub mod Rising
pub mod KeyBegin
pub mod Parts
pub mod Walk
pub mod PartAt
