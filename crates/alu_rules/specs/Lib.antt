pub mod Width
pub mod Lane
pub mod Across
pub mod Result
pub mod Ones
