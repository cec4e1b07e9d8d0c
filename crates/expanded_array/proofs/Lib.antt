pub mod ArrayLaws
mod Bits
mod BodyLaws
mod ColonLaws
mod Packing
mod Examples
pub mod FlatLaws
mod Fronts
mod Growing
mod Places
mod ReadLaws
mod SetLaws
mod SpellingLaws
pub mod TextLaws
pub mod Uniqueness
mod Written
