pub mod Cutting
pub mod Freeing
pub mod Slicing
pub mod Steps
pub mod Looping
pub mod Standing
pub mod Leaving
pub mod Vacuuming
mod Examples
