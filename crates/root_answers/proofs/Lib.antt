pub mod RootTexts
pub mod RootModels
