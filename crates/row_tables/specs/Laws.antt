-- What the laws of tables say of views.
use Rattle.std.specs.Prelude.{◌≡◌, ℕ, Bool, true, false, List, Option, Some, None, option_map, slice_get}
use Rattle.lo_base.specs.declared.value.Cell.{Cell}
use Rattle.lo_model.specs.Database.{Table}
use Rattle.lo_model.specs.Edit.{Deed, Create, Write, Cut, Unlink, Put, Delete, Edit}
use Rattle.lo_model.specs.Row.{Row, row_in}
use Rattle.xact_core.specs.declared.snapshot.Snapshot.{Snapshot}
use Rattle.xact_core.specs.Transactions.{Transactions}
use Rattle.toast_chunks.specs.declared.chunks.Chunks.{Chunks}
use Rattle.row_tables.specs.declared.row_key.RowKey.{RowKey}
use Rattle.row_tables.specs.declared.tables.Tables.{Tables}
use Rattle.row_tables.specs.Cells.{Told, stored_told, values_told}
use Rattle.row_tables.specs.Outside.{HasOutside}
use Rattle.row_tables.specs.Standing.{cells_at}

-- whether a deed is one on a large object
abbrev pub is_of_objects : Deed → Bool
is_of_objects (Create o) = true
is_of_objects (Write o at bytes) = true
is_of_objects (Cut o size) = true
is_of_objects (Unlink o) = true
is_of_objects (Put t i values stored) = false
is_of_objects (Delete t i) = false

-- the row that cells stand for
abbrev pub row_told : (ℕ → Told) → List Cell → Row
row_told told row = record { values = values_told told row; stored = stored_told told row }

-- a row that is found has all its values outside
abbrev pub HasOutsideIfThere : (ℕ → Told) → Transactions → Snapshot → Chunks → Option (List Cell) → Type 0
HasOutsideIfThere told x v chunks None = Unit {0}
HasOutsideIfThere told x v chunks (Some row) = HasOutside told x v chunks row

-- A view reads by some edits: each row of a table is that of the edits, and the view has its values outside.
pub record ReadsRows (x : Transactions) (v : Snapshot) (tables : Tables) (told : ℕ → Told) (edits : List (Edit Deed)) : Type 0 where
  pub rows : (key : RowKey) (table : Table) → slice_get tables.catalog key.table ≡ Some table → row_in table.name key.id edits ≡ option_map (row_told told) (cells_at x v tables key)
  pub outside : (key : RowKey) → HasOutsideIfThere told x v tables.chunks (cells_at x v tables key)
