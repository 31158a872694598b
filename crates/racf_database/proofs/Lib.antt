mod CommandRows
mod ProfileRows
pub mod OptionReady
pub mod StepLaws
pub mod Ready
pub mod ProfileReady
pub mod ClassReady
pub mod EachReady
