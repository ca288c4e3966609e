pub mod Theorems
pub mod Unique
