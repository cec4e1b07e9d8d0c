pub mod ReturnedBlocks
pub mod RoomsAsBlocks
pub mod TakeAndGive
