pub mod Candidates
pub mod CandidateRows
pub mod Points
pub mod ReadInside
pub mod ItemsInside
pub mod SeenSplit
pub mod SplitRight
pub mod MayRead
