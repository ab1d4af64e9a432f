pub mod Members
pub mod Listed
