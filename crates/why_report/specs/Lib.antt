pub mod Waits
pub mod Sights
pub mod Classes
pub mod Texts
pub mod Written
