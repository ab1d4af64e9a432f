pub mod ReadAt
pub mod Solved
pub mod Planned
pub mod Guards
pub mod Collecting
pub mod Noisy
