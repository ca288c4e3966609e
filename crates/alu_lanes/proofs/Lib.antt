pub mod Words
pub mod Masks
pub mod Integers
pub mod Signed
pub mod Unique
