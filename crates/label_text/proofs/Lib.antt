pub mod Lines
pub mod Most
pub mod Named
pub mod Handed
pub mod Determined
