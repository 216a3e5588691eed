pub mod Operators
pub mod Rows
pub mod Decoration
pub mod Answers
