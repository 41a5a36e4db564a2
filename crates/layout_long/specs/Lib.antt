pub mod Long
pub mod WritingLong
pub mod Conversion
pub mod RoundTrip
