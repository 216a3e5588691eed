pub mod Survivors
pub mod Noted
pub mod Cut
pub mod Reading
pub mod Pairs
pub mod Totals
pub mod Values
pub mod Known
pub mod Looked
mod Features
