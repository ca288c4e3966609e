pub mod Fields
pub mod Operation
pub mod Refusal
pub mod Decided
