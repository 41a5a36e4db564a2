pub mod Read
pub mod Most
pub mod Asked
pub mod Determined
