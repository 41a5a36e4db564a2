pub mod Described
pub mod Sizes
pub mod Sound
pub mod Block
pub mod Determined
