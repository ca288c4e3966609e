pub mod RowShown
pub mod CycleWithRow
pub mod Unique
