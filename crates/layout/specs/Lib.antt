pub mod Swapped
pub mod Fields
pub mod Layout
pub mod Writing
pub mod RoundTrip
