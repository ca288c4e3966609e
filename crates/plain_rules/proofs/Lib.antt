pub mod Boundaries
pub mod Refusals
pub mod Said
pub mod Theorems
pub mod Marks
pub mod Editions
