pub mod Idling
pub mod Later
pub mod Settles
