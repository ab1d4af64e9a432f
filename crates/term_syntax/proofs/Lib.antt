pub mod Balance
pub mod Loops
pub mod Rests
pub mod SizeLaws
pub mod Trees
pub mod Turns
pub mod Unique
pub mod VariableLaws
