pub mod Entries
pub mod Free
pub mod Lending
pub mod Pages
