pub mod Tokens
pub mod Shared
pub mod Sharing
pub mod Turns
pub mod Looks
pub mod Crews
pub mod Runs
