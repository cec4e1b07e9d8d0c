pub mod Appended
pub mod Cause
pub mod Code
pub mod Name
pub mod Refusal
