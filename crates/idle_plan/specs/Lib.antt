pub mod Idling
pub mod Read
pub mod Told
pub mod Waits
