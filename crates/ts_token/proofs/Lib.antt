mod Fronts
pub mod LineLaws
mod WordLaws
mod FewWords
mod RowLaws
pub mod HalfLaws
mod NumberLaws
mod SliceLaws
mod Heads
mod Drops
mod PlaceLaws
mod KeptSizes
pub mod GistLaws
pub mod EndLaws
mod ShortLaws
pub mod NumberTexts
