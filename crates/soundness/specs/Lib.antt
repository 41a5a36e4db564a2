pub mod Faults
pub mod Described
