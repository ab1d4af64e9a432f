pub mod StillSolved
pub mod Committed
pub mod CallsNow
pub mod CallsMade
pub mod CallNames
pub mod Stale
pub mod InOrder
pub mod Made
mod Marked
pub mod LabelNow
pub mod SeenNow
mod SolvedNow
pub mod StoreMarked
pub mod StoreLeaves
