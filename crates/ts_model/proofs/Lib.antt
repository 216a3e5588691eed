mod AsciiNames
mod TableNames
mod RangeLaws
mod UnionLaws
mod CellLaws
mod DomainLines
mod TermLines
pub mod TermWindows
mod TermLaws
mod Takes
mod LineLaws
mod FewWords
mod ReadingLaws
mod OnlyLaws
pub mod LongWords
mod LineByLaws
mod ReaderLaws
mod ValueLaws
mod SaidRanges
pub mod FitLaws
mod Told
pub mod MeetsLaw
pub mod LinePieces
pub mod ModelTexts
mod WholeTexts
