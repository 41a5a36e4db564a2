pub mod Listing
pub mod Label
pub mod Search
