pub mod Pairs
pub mod Machines
pub mod Glue
pub mod Glued
pub mod Rules
pub mod Shapes
pub mod Laws
