pub mod Taking
pub mod Recorded
pub mod Filling
pub mod Determined
