pub mod Hulls
pub mod Sealed
pub mod Splits
pub mod Cuts
pub mod Smalls
pub mod Sweeps
