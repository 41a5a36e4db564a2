pub mod Image
pub mod LastLines
