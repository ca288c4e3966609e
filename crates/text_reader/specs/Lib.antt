pub mod Keys
pub mod Front
pub mod Said
