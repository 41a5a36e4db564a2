pub mod Sound
pub mod Determined
