pub mod Seams
pub mod Singles
pub mod RisingLaws
pub mod KeyBeginLaws
