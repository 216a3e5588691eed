mod Walk
mod Texts
pub mod Holders
mod Counts
mod Rising
