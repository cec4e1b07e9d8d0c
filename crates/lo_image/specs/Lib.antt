pub mod Image
pub mod Readers
pub mod Reading
pub mod Tables
pub mod Writing
