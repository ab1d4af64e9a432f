pub mod Receipts
pub mod Solving
pub mod Cores
