pub mod Waking
pub mod Racing
