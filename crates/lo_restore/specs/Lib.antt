pub mod Objects
pub mod Tables
pub mod TablesCounted
pub mod TablesRestored
pub mod TablesSaved
pub mod Tries
