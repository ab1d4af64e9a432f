pub mod Plans
pub mod Labels
pub mod StillInside
pub mod Turns
pub mod OneWorker
pub mod ReceiptsFrom
