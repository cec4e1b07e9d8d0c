-- Values of array columns are flat bytes of arrays, in every row that was ever put.
use Rattle.std.specs.Prelude.{◌≡◌, ℕ, true, List, [], ◌∷◌, All, Option, Some, None, is_some}
use Rattle.expanded_array.specs.Array.{Array}
use Rattle.expanded_array.specs.Flat.{IsFlat}
use Rattle.expanded_array.specs.Layout.{array_in}
use Rattle.lo_base.specs.declared.column.Column.{Column}
use Rattle.lo_base.specs.declared.column.ColType.{ColType}
use Rattle.lo_base.specs.declared.column.ColType.TheVariants.{Int4Array}
use Rattle.lo_base.specs.declared.value.Cell.{Cell}
use Rattle.lo_base.specs.declared.value.Cell.TheVariants as cells
use Rattle.lo_base.specs.declared.value.Value.{Value}
use Rattle.lo_base.specs.declared.value.Value.TheVariants.{Null, Int, Oid, Bytes}
use Rattle.lo_model.specs.Database.{Table}
use Rattle.lo_model.specs.Edit.{Deed, Put, Edit}
use Rattle.row_tables.specs.Catalog.{table_in}
use Rattle.lo_machine.specs.Values.{bytes_cell}

-- flat bytes, in a column of arrays
abbrev pub AreFlatIn : ColType → List ℕ → Type 0
AreFlatIn Int4Array bytes = IsFlat bytes
AreFlatIn _ bytes = Unit {0}

-- a type without arrays
abbrev pub HasNoArrays : ColType → Type 0
HasNoArrays Int4Array = ⊥
HasNoArrays _ = Unit {0}

-- a value of a column: where it has arrays, null or flat bytes
abbrev pub IsFlatValue : ColType → Value → Type 0
IsFlatValue kind Null = Unit {0}
IsFlatValue kind (Int n) = HasNoArrays kind
IsFlatValue kind (Oid o) = HasNoArrays kind
IsFlatValue kind (Bytes bytes) = AreFlatIn kind bytes

-- values of columns, one for each
abbrev pub AreFlatValues : List Column → List Value → Type 0
AreFlatValues [] [] = Unit {0}
AreFlatValues (c ∷ columns) (v ∷ row) = IsFlatValue c.kind v × AreFlatValues columns row
AreFlatValues _ _ = ⊥

-- a row's table is there, and its values are flat
pub record IsFlatPut (tables : List Table) (table : List ℕ) (row : List Value) : Type 0 where
  pub there : is_some (table_in table tables) ≡ true
  pub flat : (t : Table) → table_in table tables ≡ Some t → AreFlatValues t.columns row

abbrev pub IsFlatDeed : List Table → Deed → Type 0
IsFlatDeed tables (Put table i row stored) = IsFlatPut tables table row
IsFlatDeed tables _ = Unit {0}

abbrev pub AreFlatRows : List Table → List (Edit Deed) → Type 0
AreFlatRows tables edits = All (λ (e : Edit Deed). IsFlatDeed tables e.deed) edits

-- cells of columns, one for each, of which those of arrays are flat

abbrev pub IsFlatCell : ColType → Cell → Type 0
IsFlatCell kind cells.Null = Unit {0}
IsFlatCell kind (cells.Int n) = HasNoArrays kind
IsFlatCell kind (cells.Oid o) = HasNoArrays kind
IsFlatCell kind (cells.Inline bytes) = AreFlatIn kind bytes
IsFlatCell kind (cells.Text bytes) = HasNoArrays kind
IsFlatCell kind (cells.Outside length value) = HasNoArrays kind

abbrev pub AreFlatCells : List Column → List Cell → Type 0
AreFlatCells [] [] = Unit {0}
AreFlatCells (c ∷ columns) (cell ∷ row) = IsFlatCell c.kind cell × AreFlatCells columns row
AreFlatCells _ _ = ⊥

-- the cells that a reply has in place of those: an array by its text

abbrev pub told_cell : ColType → Cell → Cell
told_cell kind cells.Null = cells.Null
told_cell kind (cells.Int n) = cells.Int n
told_cell kind (cells.Oid o) = cells.Oid o
told_cell kind (cells.Inline bytes) = bytes_cell kind bytes
told_cell kind (cells.Text bytes) = cells.Text bytes
told_cell kind (cells.Outside length value) = cells.Outside length value

abbrev pub told_cells : List Column → List Cell → List Cell
told_cells (c ∷ columns) (cell ∷ row) = told_cell c.kind cell ∷ told_cells columns row
told_cells _ _ = []

-- the array of a column's cell, if it is one

abbrev pub array_bytes : ColType → List ℕ → Option Array
array_bytes Int4Array bytes = Some (array_in bytes)
array_bytes _ bytes = None

abbrev pub array_cell : ColType → Cell → Option Array
array_cell kind cells.Null = None
array_cell kind (cells.Int n) = None
array_cell kind (cells.Oid o) = None
array_cell kind (cells.Inline bytes) = array_bytes kind bytes
array_cell kind (cells.Text bytes) = None
array_cell kind (cells.Outside length value) = None
