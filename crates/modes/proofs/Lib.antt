pub mod Places
pub mod Rules
pub mod Forms
pub mod Codes
pub mod Determined
