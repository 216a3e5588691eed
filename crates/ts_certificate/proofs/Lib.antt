mod NumberLaws
mod TreeLaws
mod HeadLaws
mod ValueLaws
mod LineLaws
mod StopLaws
mod ReadingLaws
mod CertificateLaws
mod TextLaws
mod ByteLaws
mod SizeLaws
pub mod CallerLemmas
