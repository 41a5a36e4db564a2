pub mod Turns
pub mod Lowest
pub mod Listed
pub mod BroadcastOff
pub mod ByKind
pub mod Before
pub mod Whole
pub mod Determined
