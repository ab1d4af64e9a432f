pub mod Rounds
pub mod Finding
pub mod Having
pub mod Grouping
pub mod Numbering
pub mod Splitting
pub mod Telling
pub mod Sound
