pub mod Histories
pub mod Kept
pub mod Known
pub mod Passes
pub mod Told
pub mod Views
