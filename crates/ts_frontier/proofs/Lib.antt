pub mod Trailed
pub mod Stays
pub mod Following
pub mod Halves
pub mod Waits
