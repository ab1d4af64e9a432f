pub mod Operations
pub mod Expressions
pub mod Walking
pub mod Answers
