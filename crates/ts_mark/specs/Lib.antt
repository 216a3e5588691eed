pub mod MarkText
pub mod Holders
pub mod Rising
pub mod Walk
