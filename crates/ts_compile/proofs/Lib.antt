mod Facts
mod Forms
mod Halves
mod Instances
mod JoinStates
mod JudgeLaws
mod Local
pub mod Over
mod Pairs
pub mod Partners
mod Patterns
mod Rules
mod Seeds
mod Series
mod Small
mod Steps
pub mod Tables
pub mod Terms
mod Tests
mod Texts
mod Whole
