pub mod Keys
pub mod Values
pub mod Calls
pub mod Standing
