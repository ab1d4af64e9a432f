pub mod Leading
pub mod Reached
pub mod Walks
