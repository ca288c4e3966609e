pub mod Words
pub mod Numbers
