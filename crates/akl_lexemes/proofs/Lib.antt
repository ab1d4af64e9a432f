pub mod BracketTable
pub mod DepthScan
pub mod LexemeTurns
pub mod NameNumbers
pub mod NumberedLexemes
pub mod Refusals
