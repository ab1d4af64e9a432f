pub mod Firsts
pub mod Leasts
pub mod NamedTexts
pub mod ChainNames
pub mod RootGoals
pub mod AlternativesSeen
pub mod GoalsFound
pub mod RootLines
