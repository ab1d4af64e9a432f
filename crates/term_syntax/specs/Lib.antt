pub mod Ends
pub mod Grammar
pub mod Sizes
pub mod Tree
pub mod Variables
pub mod View
