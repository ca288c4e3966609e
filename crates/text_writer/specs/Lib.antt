pub mod Put
pub mod Name
