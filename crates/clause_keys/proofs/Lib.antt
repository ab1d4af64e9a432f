pub mod Places
pub mod Indexing
pub mod Defined
pub mod Definitions
