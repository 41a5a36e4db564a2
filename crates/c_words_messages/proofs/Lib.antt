pub mod Early
pub mod Called
pub mod Determined
