pub mod Order
pub mod Pieces
pub mod SpanLaws
mod Taking
mod WordCuts
pub mod WordLaws
pub mod WindowLaws
