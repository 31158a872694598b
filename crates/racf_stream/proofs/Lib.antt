mod Rows
pub mod Settled
pub mod CommandLaws
pub mod IssuingLaws
pub mod Faults
pub mod Processing
pub mod StreamWalk
pub mod LeftLaws
pub mod Moments
pub mod Doubt
pub mod ScriptLaws
pub mod Resting
pub mod PrintedLaws
pub mod FailedLaws
pub mod TurnLines
pub mod OutputLaws
pub mod OutputLines
pub mod DecidedLaws
