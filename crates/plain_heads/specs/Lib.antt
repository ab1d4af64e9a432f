pub mod Plain
pub mod Joined
