pub mod ChainTexts
