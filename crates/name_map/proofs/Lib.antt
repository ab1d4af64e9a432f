pub mod Found
pub mod Lent
pub mod Listing
pub mod NameOrder
pub mod SameEntries
pub mod Whole
pub mod Within
