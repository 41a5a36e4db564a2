pub mod Asked
pub mod Copies
pub mod Runs
pub mod Writes
pub mod Reply
