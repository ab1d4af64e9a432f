pub mod Nodes
pub mod Steps
pub mod Runs
pub mod Plain
pub mod Decided
