mod Examples
pub mod CleanUpRuns
pub mod CleanUpTold
pub mod CleanUpEnds
pub mod CleanUpOptions
pub mod Stops
pub mod ObjectsListed
pub mod PiecesOfText
pub mod Statuses
pub mod ThreadsRead
pub mod PlayedOrders
