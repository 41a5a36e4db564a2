pub mod Listed
pub mod Early
pub mod Turns
pub mod Alike
pub mod Gone
pub mod Answers
pub mod Parts
pub mod Determined
