pub mod Before
pub mod Failing
pub mod Parts
pub mod Determined
