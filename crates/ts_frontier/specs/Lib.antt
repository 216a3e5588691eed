pub mod Follow
pub mod Forms
pub mod Halve
pub mod Laws
pub mod Uppers
pub mod Waiting
