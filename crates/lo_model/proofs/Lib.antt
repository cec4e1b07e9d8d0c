mod Examples
pub mod HeldLaws
pub mod ListingLaws
mod SessionExamples
pub mod TouchLaws
