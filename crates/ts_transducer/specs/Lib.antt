pub mod Typing
pub mod Decode
pub mod Rows
pub mod Inside
pub mod Keeps
