pub mod Order
pub mod Condition
pub mod Descriptors
pub mod Kept
pub mod After
pub mod Exchanged
pub mod Cases
