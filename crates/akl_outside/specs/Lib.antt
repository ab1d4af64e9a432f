pub mod Answers
pub mod Counts
pub mod Memory
pub mod Transfer
pub mod Stream
