pub mod Places
pub mod Numbers
pub mod Rows
pub mod Writes
pub mod Footprint
pub mod Alike
pub mod Determined
