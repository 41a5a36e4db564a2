pub mod Map
pub mod Kind
pub mod Rows
pub mod Writes
pub mod State
