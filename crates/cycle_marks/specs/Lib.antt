pub mod Rows
pub mod Components
pub mod Searching
