use Rattle.std.specs.Prelude.{ℕ, List}
use Rattle.lo_base.specs.declared.column.Column.{Column}
use Rattle.lo_model.specs.Edit.{Deed, Edit}

-- a table's name and its columns, with their storages
pub record Table : Type 0 where
  pub name : List ℕ
  pub columns : List Column

-- A database is the list of all edits that were not undone, in the order made, the tables, and the counter from which
-- numbers for new objects are picked. The tables and the counter are not undone with a transaction.
pub record Database : Type 0 where
  pub edits : List (Edit Deed)
  pub tables : List Table
  pub counter : ℕ
