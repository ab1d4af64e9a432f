pub mod Placed
pub mod Changed
pub mod Leading
pub mod Exact
pub mod Copies
pub mod Listed
pub mod Gone
pub mod Inner
