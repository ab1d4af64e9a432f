pub mod Words
pub mod Notices
pub mod Endings
