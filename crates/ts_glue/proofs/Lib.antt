pub mod Expressions
pub mod Facts
pub mod Typed
pub mod SpanGlue
pub mod TwoForms
pub mod Locality
pub mod Calls
pub mod CallerLemmas
