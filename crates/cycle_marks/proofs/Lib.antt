pub mod Places
pub mod Paths
pub mod Marking
pub mod Opening
pub mod Joining
pub mod Closing
pub mod Steps
