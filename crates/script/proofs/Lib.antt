pub mod Bytes
pub mod Numerals
pub mod Parts
pub mod Boundaries
pub mod Theorems
pub mod Unique
