pub mod Loop
pub mod Unique
