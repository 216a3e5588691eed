pub mod Gluings
pub mod Marks
pub mod Pointed
pub mod Meeting
pub mod SeenGlue
pub mod Watched
pub mod Asking
pub mod CallerLemmas
pub mod Lanes
pub mod Places
mod AloneLaws
