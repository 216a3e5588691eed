pub mod TermPairs
pub mod Compiled
pub mod Programs
pub mod ProgramText
pub mod Seeds
