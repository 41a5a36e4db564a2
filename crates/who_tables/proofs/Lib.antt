pub mod Beside
pub mod Marked
pub mod Marks
pub mod Parts
pub mod Tables
pub mod Determined
