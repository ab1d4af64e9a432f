pub mod Split
pub mod Read
