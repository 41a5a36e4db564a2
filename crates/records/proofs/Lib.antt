pub mod Turns
pub mod Rules
pub mod Before
pub mod Determined
