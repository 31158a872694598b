pub mod Held
pub mod Targets
pub mod Operands
pub mod Requirements
pub mod Authority
pub mod Entries
pub mod OperandGroups
