pub mod LongPut
pub mod Determined
