pub mod Origin
pub mod Placed
