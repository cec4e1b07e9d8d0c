mod Examples
pub mod Fronts
