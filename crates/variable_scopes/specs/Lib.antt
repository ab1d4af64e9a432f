pub mod Laws
pub mod Numbering
pub mod Scoped
pub mod Shapes
pub mod Spellings
pub mod Variables
