pub mod Mark
pub mod Tests
pub mod Table
