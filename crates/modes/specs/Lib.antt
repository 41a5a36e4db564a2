pub mod Table
pub mod Code
pub mod Form
pub mod Place
pub mod Remembered
pub mod Marks
