pub mod Five
pub mod OperatorLaws
pub mod FormulaLaws
mod FrontLaws
mod LineLaws
mod MoveLaws
mod SolidLaws
mod GrowLaws
mod FollowLaws
mod ReadLaws
mod BodyLaws
mod WidthLaws
mod WriteLaws
pub mod TextLaws
pub mod Lists
pub mod Listed
pub mod Evaluation
pub mod Rules
pub mod Tables
pub mod KindLaws
pub mod StepLaws
pub mod RunLaws
mod NarrowLaws
