pub mod OfProgram
pub mod OfTerms
