pub mod BlockLaws
pub mod DataAgain
