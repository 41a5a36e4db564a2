pub mod Halves
pub mod Listed
pub mod Determined
