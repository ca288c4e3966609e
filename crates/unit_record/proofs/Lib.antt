pub mod RecordNumbers
pub mod Unique
