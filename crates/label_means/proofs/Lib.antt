pub mod Means
pub mod BroadcastOff
