pub mod Checking
pub mod Feeding
pub mod Laws
pub mod Shortened
pub mod Standings
pub mod Subjects
pub mod Verdicts
pub mod Verified
