pub mod Among
pub mod Plans
pub mod Unsplit
pub mod Sights
pub mod FoundIdle
pub mod MadeAgain
