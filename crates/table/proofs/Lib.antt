pub mod Rows
pub mod Places
pub mod Decided
pub mod Assembled
pub mod Theorems
pub mod Told
pub mod Unique
