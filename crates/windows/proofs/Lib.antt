pub mod Wrap
pub mod Meets
pub mod Determined
