pub mod Nodes
pub mod Tables
pub mod Orders
pub mod Joins
