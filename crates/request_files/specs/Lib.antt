pub mod Spellings
pub mod Grammar
pub mod IssuerLines
pub mod Seen
pub mod Answers
pub mod Acees
pub mod Worked
pub mod OneLine
