pub mod Alive
mod KnownValues
mod Runs
mod Changed
mod Letters
