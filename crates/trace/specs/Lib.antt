pub mod Walk
pub mod Output
