pub mod FormTexts
