pub mod Growth
pub mod NewNodes
pub mod Readings
pub mod Places
pub mod Orders
pub mod Members
pub mod Puts
