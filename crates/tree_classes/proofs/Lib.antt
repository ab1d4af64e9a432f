pub mod Classed
pub mod Numbering
pub mod Beginnings
pub mod Decided
