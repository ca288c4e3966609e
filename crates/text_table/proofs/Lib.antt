pub mod Cells
pub mod Unique
