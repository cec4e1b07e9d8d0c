pub mod Contracts
mod Examples
pub mod KeptViews
pub mod LevelPlaces
pub mod ListPlaces
pub mod Newest
pub mod Owners
pub mod SessionFields
pub mod Sessions
pub mod ViewLaws
pub mod ViewOrder
