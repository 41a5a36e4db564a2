pub mod Parity
pub mod Bitwise
pub mod Legal
pub mod Shown
pub mod Determined
