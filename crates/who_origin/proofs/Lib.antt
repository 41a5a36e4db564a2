pub mod Last
pub mod Placed
pub mod Determined
