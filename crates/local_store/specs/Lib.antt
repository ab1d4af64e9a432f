pub mod Stored
pub mod Kept
pub mod Parts
pub mod Chained
pub mod Bound
pub mod Telling
pub mod Asking
pub mod Promoting
