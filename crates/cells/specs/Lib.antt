pub mod Cell
pub mod Stack
