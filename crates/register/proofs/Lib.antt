pub mod Joined
pub mod WordBounds
pub mod Equality
pub mod Lanes
pub mod ByteOrder
pub mod Theorems
pub mod Unique
