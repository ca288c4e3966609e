pub mod Clamped
pub mod Sign
