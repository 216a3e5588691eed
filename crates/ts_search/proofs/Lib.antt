mod CallLaws
mod Certified
pub mod Choice
pub mod Closing
mod CodeFound
mod CodeLeaps
mod CodeLines
mod CodeTurns
pub mod DiveLaws
mod DiveSteps
pub mod DropLaws
mod FreeValues
pub mod Good
mod Growing
mod KeptLaws
pub mod Known
mod Leaps
pub mod LineParts
pub mod ListGood
pub mod ListLean
pub mod ListSolves
pub mod ListUnique
mod Marks
mod Narrower
pub mod NextDrop
pub mod OfProgram
pub mod OpenLines
mod Paced
pub mod Parts
mod Posed
pub mod Reason
pub mod Right
pub mod Solves
pub mod Unique
pub mod Walk
mod Witnessed
