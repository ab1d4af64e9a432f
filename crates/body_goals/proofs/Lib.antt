pub mod Finding
pub mod OneBinding
pub mod Taking
pub mod Reductions
pub mod InOrder
