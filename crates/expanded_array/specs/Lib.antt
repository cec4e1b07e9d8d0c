pub mod Answer
pub mod Array
pub mod Flat
pub mod Kept
pub mod Layout
pub mod Text
pub mod Spelling
pub mod Read
