pub mod Filled
pub mod NotTold
pub mod GoOn
pub mod Determined
