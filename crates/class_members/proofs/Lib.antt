pub mod Gathered
pub mod BoundKeys
pub mod Enough
pub mod Whole
pub mod BoundMembers
