pub mod BindsLater
pub mod ListedOutside
pub mod StepOutside
pub mod CallBindsAgain
pub mod EqualOutside
pub mod CallOutside
