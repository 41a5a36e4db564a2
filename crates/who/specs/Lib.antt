pub mod Tests
pub mod Next
pub mod Values
pub mod Replay
pub mod Answered
