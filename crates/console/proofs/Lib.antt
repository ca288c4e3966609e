mod Pieces
pub mod Handing
pub mod Theorems
