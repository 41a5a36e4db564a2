pub mod Act
pub mod Motion
pub mod Report
pub mod Clean
pub mod Deed
pub mod Entry
pub mod Plan
