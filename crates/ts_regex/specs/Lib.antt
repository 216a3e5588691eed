pub mod Shape
pub mod Language
pub mod Derivative
pub mod NormalForm
pub mod Membership
pub mod Rising
