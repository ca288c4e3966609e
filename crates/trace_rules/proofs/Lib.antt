pub mod Boundaries
pub mod Shared
pub mod Going
pub mod Theorems
pub mod TextLengths
pub mod TextPut
pub mod TextTheorems
