pub mod Seen
pub mod Next
pub mod Again
