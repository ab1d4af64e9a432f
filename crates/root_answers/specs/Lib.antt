pub mod Text
pub mod Roots
pub mod Models
