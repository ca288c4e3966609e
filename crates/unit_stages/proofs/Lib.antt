pub mod Newest
pub mod Unique
