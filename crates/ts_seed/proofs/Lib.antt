pub mod Closed
mod Joins
pub mod Plans
pub mod Kept
