pub mod Takes
pub mod Binds
pub mod Goals
pub mod Reduced
