pub mod Runs
pub mod GoesOn
pub mod Kept
pub mod Ends
pub mod Used
pub mod Determined
