pub mod Booleans
pub mod Derivatives
pub mod NormalForms
pub mod Members
pub mod Laws
pub mod Rising
