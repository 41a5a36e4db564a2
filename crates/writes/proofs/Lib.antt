pub mod Carried
pub mod TwoRuns
pub mod Replied
pub mod Listed
pub mod Determined
