pub mod Places
pub mod Lifting
pub mod Noting
pub mod Scopes
pub mod Whole
