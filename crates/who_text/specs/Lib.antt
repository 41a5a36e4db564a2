pub mod Line
pub mod Address
