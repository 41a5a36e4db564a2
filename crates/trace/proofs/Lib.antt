pub mod Left
pub mod Walks
pub mod Chunks
pub mod Printed
pub mod Determined
