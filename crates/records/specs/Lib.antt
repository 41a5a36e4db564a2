pub mod Transfer
pub mod Value
