pub mod Stores
pub mod Pieces
pub mod RowWritten
pub mod Unique
