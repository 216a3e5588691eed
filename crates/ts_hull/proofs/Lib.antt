pub mod HullLaws
pub mod SpanHulls
pub mod Sums
pub mod SplitLaws
pub mod Letters
pub mod Puts
pub mod Wholes
