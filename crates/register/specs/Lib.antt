pub mod Halves
pub mod Layout
