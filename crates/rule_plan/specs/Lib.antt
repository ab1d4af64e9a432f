pub mod Made
pub mod Failed
pub mod Clashes
pub mod AtGoals
pub mod Solving
pub mod Sent
