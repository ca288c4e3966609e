pub mod Loading
pub mod Loop
pub mod ByLines
pub mod CyclesAndRuns
pub mod Unique
