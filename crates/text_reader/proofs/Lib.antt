pub mod Behind
pub mod Keys
pub mod Names
pub mod Numbers
pub mod NameKeys
pub mod Lines
pub mod Texts
pub mod Unique
