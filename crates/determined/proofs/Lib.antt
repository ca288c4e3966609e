pub mod OneEquation
pub mod Theorems
