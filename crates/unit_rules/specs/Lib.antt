pub mod Latches
pub mod Cycle
pub mod Record
pub mod Answers
pub mod Calls
pub mod Sequence
pub mod Stages
pub mod Settled
