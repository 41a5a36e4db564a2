pub mod Runs
pub mod Added
pub mod Numerals
pub mod TwoDigits
pub mod Lines
pub mod Determined
