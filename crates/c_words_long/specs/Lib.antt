pub mod LongValues
