pub mod Machine
pub mod Answer
