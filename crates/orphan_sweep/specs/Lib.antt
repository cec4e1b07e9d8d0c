pub mod Rest
pub mod Plan
pub mod History
pub mod State
pub mod Place
pub mod Inside
pub mod Law
pub mod Ending
