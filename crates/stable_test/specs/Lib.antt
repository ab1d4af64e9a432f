pub mod Frames
pub mod Reaching
pub mod Seen
pub mod Inner
