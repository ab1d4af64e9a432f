pub mod Building
pub mod Built
pub mod Reached
