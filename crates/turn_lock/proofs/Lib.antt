mod Changes
mod Ends
mod Firsts
pub mod Goings
mod Leaving
mod Merging
mod Places
mod Splitting
mod Standings
mod Taking
mod Whole
