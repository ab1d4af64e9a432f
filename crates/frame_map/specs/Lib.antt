pub mod Contents
pub mod Roots
