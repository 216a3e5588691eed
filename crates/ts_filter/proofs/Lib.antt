pub mod BoxParts
mod SoFarLaws
pub mod SpanEnds
pub mod TreeLaws
mod SeriesLines
pub mod Answered
pub mod LineLaws
pub mod SoundLaws
pub mod TestLaws
pub mod RangeLaws
pub mod MachineLaws
mod Looked
mod TermsAsked
pub mod CallLaws
mod AnswerLaws
mod Refuting
mod Removals
mod MeetingLaws
mod ChangedTables
mod DropLaws
mod EarlyCells
pub mod SparedLaws
pub mod KeptLaws
mod Quiet
mod CellLaws
mod CourseLaws
mod TableSteps
mod MeetLaws
mod EnoughEnds
mod SeenEnds
mod AlikeLaws
mod ManyLaws
mod TableRows
