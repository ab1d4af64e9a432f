pub mod Own
pub mod Answering
pub mod Places
pub mod Gathered
pub mod Texts
pub mod Stopping
pub mod Reported
