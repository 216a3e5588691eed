pub mod Runs
pub mod Witnesses
pub mod Letters
pub mod Laws
pub mod KnownValues
