pub mod Reserved
pub mod Keys
pub mod Conditions
pub mod Indexed
