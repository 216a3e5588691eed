pub mod Live
pub mod Noted
pub mod Residuals
pub mod Total
