pub mod Places
pub mod Rows
pub mod Built
pub mod Reaching
