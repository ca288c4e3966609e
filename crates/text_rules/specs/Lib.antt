pub mod Letters
pub mod Front
pub mod Number
pub mod Forms
pub mod Line
pub mod Text
pub mod Listing
pub mod Unnamed
