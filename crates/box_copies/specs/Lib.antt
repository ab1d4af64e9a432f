pub mod Swaps
pub mod Renamer
pub mod Made
pub mod Copies
