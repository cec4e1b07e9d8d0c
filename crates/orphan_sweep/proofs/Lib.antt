pub mod ActKinds
pub mod Groups
pub mod Places
pub mod FieldsAfter
pub mod Histories
pub mod Commits
pub mod OneMoreAnswer
pub mod Rests
pub mod Merge
pub mod AskedActs
pub mod Reports
pub mod Endings
mod Examples
