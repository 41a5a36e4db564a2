pub mod Check
pub mod Labels
pub mod Descriptions
