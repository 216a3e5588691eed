mod Cells
mod Fed
pub mod Verdicts
mod HeadLaws
mod LineSteps
mod RuleLaws
mod Waits
mod OfProgram
pub mod Truth
mod LineSizes
mod LongLines
mod KeptLines
mod JudgingLaws
mod InputLaws
mod InputEnds
mod WholeSteps
mod OneAnswer
