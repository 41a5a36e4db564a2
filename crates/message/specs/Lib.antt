pub mod Heard
pub mod Tests
pub mod Answer
pub mod Message
pub mod Performed
pub mod Run
pub mod Edges
