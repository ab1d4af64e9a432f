pub mod Firsts
pub mod Parts
pub mod Lists
pub mod Splits
