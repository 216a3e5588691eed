pub mod Rows
pub mod Plans
pub mod Takings
pub mod ClampedLaws
