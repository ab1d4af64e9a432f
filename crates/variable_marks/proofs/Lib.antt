pub mod InFrames
pub mod Within
