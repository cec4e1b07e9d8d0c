mod Beginning
pub mod Benching
pub mod Between
pub mod Bringing
mod Cancelling
pub mod Changed
pub mod Changing
pub mod ColumnPlaces
mod Declaring
pub mod Deleting
pub mod Drafting
pub mod Dropped
pub mod EachOf
mod Ends
pub mod Erasing
pub mod Exits
mod Fetching
pub mod Granting
pub mod HeldRows
pub mod IdLists
pub mod Indexing
pub mod Inserting
pub mod Judging
pub mod JudgingRows
mod Keeping
pub mod Laws
pub mod Leaving
pub mod Lengths
mod Mapping
pub mod Moving
pub mod NamesInOrder
pub mod Naming
pub mod NewColumns
pub mod Numbers
pub mod OthersOpen
pub mod Owning
mod Passing
pub mod Places
pub mod Planned
pub mod Putting
pub mod ReadRows
pub mod Resting
pub mod Rewritten
pub mod RowChanges
pub mod RowEdited
pub mod RowEdits
pub mod RowReads
mod Searching
pub mod Seeing
pub mod Settling
pub mod Storages
pub mod StoringAnew
pub mod StoringRows
pub mod TableMaking
pub mod Turning
pub mod Updating
mod Vacuuming
pub mod WholeCells
