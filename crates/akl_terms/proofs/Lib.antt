pub mod SameNames
pub mod Arguments
pub mod EqualLaws
pub mod StandingLaws
pub mod Numbering
pub mod Numbers
pub mod Unfolding
