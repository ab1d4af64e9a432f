mod Maps
mod Stamping
mod Written
pub mod Dropped
mod Adding
mod Gathered
mod KeptAndCut
mod Naming
pub mod GoalsInOrder
mod Joined
pub mod LeadsBy
mod Remarked
pub mod CutOff
mod News
mod Numbers
mod Forked
mod Begins
pub mod Looks
mod WaysOut
mod AloneSolved
pub mod Seen
pub mod Viewed
mod SolvedDown
pub mod ShownChoices
mod Within
mod Removed
mod Copied
mod Halved
pub mod BoundHere
pub mod AllInForce
pub mod FirstCandidates
pub mod OverStores
pub mod StoresAround
