pub mod Replies
pub mod Text
pub mod Batches
pub mod Steps
