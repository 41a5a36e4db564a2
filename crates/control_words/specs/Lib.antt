pub mod Number
pub mod OpCode
pub mod Condition
pub mod Flags
pub mod Outcome
