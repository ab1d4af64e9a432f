pub mod Memory
pub mod Within
pub mod Rows
pub mod Tallies
pub mod Refusals
pub mod Accepted
