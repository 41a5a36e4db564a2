pub mod Order
pub mod Again
pub mod Bit
pub mod Room
pub mod Determined
