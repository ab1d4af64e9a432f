pub mod Going
pub mod Coming
