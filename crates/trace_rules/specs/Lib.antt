pub mod RowOfCycle
pub mod Call
pub mod Happened
pub mod JobText
