pub mod Pieces
pub mod Cases
pub mod Inverse
pub mod Trips
pub mod Conversions
pub mod Undone
pub mod Determined
