pub mod SeenSets
pub mod Later
pub mod KeptBySettle
