-- The steps of a rewrite: rows that would be too big, a table of which no row is held, and a row that is stored anew.
use Rattle.std.specs.Prelude.{◌≡◌, ◌≢◌, ◌≤◌, ℕ, ℤ, pos, Bool, List, [], ◌∷◌, ◌++◌, length, map, Option, Some, None, is_none}
use Rattle.std.specs.Int.{w64}
use Rattle.std.specs.Int.RustNames.{FitsSigned}
use Rattle.lo_base.specs.declared.column.ColType.{ColType}
use Rattle.lo_base.specs.declared.column.Column.{Column}
use Rattle.lo_base.specs.declared.refusal.Cause.TheVariants.{Busy, NoColumn, WrongType}
use Rattle.lo_base.specs.declared.refusal.Denied.{Denied}
use Rattle.lo_base.specs.declared.refusal.Denied.TheVariants.{By, NoMemory}
use Rattle.lo_base.specs.declared.refusal.Refusal.{Refusal}
use Rattle.lo_base.specs.declared.value.Cell.{Cell}
use Rattle.lo_model.specs.Edit.{Deed, Edit, edits_by}
use Rattle.lo_model.specs.declared.owner.Owner.TheVariants.{Running}
use Rattle.toast_chunks.specs.Values.{next_number}
use Rattle.toast_plan.specs.Choice.{outside_of}
use Rattle.xact_core.specs.declared.snapshot.Snapshot.{Snapshot}
use Rattle.xact_core.specs.Kept.{current}
use Rattle.xact_core.specs.Transactions.{Transactions, levels_of}
use Rattle.row_versions.specs.Search.{busy_at}
use Rattle.row_versions.specs.Stack.{Each}
use Rattle.row_tables.specs.declared.row_key.RowKey.{RowKey}
use Rattle.row_tables.specs.declared.tables.Tables.{Tables}
use Rattle.row_tables.specs.Calls.{IsTable}
use Rattle.row_tables.specs.Catalog.{with_columns}
use Rattle.row_tables.specs.Cells.{all_moved, all_settled, cell_lengths, dropped, whole_row}
use Rattle.row_tables.specs.Keys.{key_cmp, row_key}
use Rattle.row_tables.specs.Outside.{ChangesRow}
use Rattle.row_tables.specs.RewriteRules.{is_fixed, puts_anew, storage_refusals}
use Rattle.row_tables.specs.RowRules.{column_in}
use Rattle.row_tables.specs.Standing.{Go, Kept, StandFor, cells_at, versions_of}
use Rattle.row_tables.specs.Terms.{first_of, refusal, row_too_big, when}
use Rattle.row_tables.specs.World.{LeavesOwn, here_of, world}

-- the first storage that is refused
abbrev pub DeniesStorages : List Column → (storages : List Column) → Denied → Type 0
DeniesStorages columns storages (By r) = first_of (storage_refusals 1 columns storages) ≡ Some r
DeniesStorages columns storages NoMemory = Unit {0}

-- the terms of one storage
abbrev pub storage_terms : List Column → (storage : Column) → (place : ℤ) → List (Option Refusal)
storage_terms columns s place =
    when (is_none (column_in s.name columns)) NoColumn place
    ∷ when (is_fixed (column_in s.name columns)) WrongType place
    ∷ []

-- columns of the same types
abbrev pub kind_of : Column → ColType
kind_of c = c.kind

abbrev pub SameKinds : (old new : List Column) → Type 0
SameKinds old new = map kind_of new ≡ map kind_of old

-- a row that is there and would be too big
abbrev pub too_big_if_there : List Column → Option (List Cell) → Option Refusal
too_big_if_there columns None = None
too_big_if_there columns (Some row) = row_too_big columns (cell_lengths row)

abbrev pub too_big_at : Transactions → Snapshot → Tables → (number : ℕ) → List Column → (id : ℤ) → Option Refusal
too_big_at x v tables n columns i = too_big_if_there columns (cells_at x v tables (row_key n i))

-- the refusal of the first of some ids whose row would be too big
abbrev pub first_too_big : Transactions → Snapshot → Tables → (number : ℕ) → List Column → List ℤ → Option Refusal
first_too_big x v tables n columns ids = first_of (map (too_big_at x v tables n columns) ids)

-- no other session holds a row of the table
pub record IsFreeTable (x : Transactions) (s : ℕ) (tables : Tables) (number : ℕ) : Type 0 where
  pub free : (id : ℤ) → FitsSigned w64 id → busy_at key_cmp x s tables.rows (row_key number id) ≡ None

-- the lowest other session that holds one, which the refusal says
pub record IsHeldTable (x : Transactions) (s : ℕ) (tables : Tables) (number : ℕ) (r : Refusal) : Type 0 where
  pub holder : ℕ
  pub says : r ≡ refusal Busy (pos holder)
  pub id : ℤ
  pub here : busy_at key_cmp x s tables.rows (row_key number id) ≡ Some holder
  pub lowest : (other : ℤ) (t : ℕ) → FitsSigned w64 other → busy_at key_cmp x s tables.rows (row_key number other) ≡ Some t → holder ≤ t

-- a row that is there, with what its plan and its values outside are under some columns
pub record IsThere (x : Transactions) (s : ℕ) (tables : Tables) (key : RowKey) (columns : List Column) : Type 0 where
  pub row : List Cell
  pub found : cells_at x (current x s) tables key ≡ Some row
  pub small : row_too_big columns (cell_lengths row) ≡ None
  pub free : busy_at key_cmp x s tables.rows key ≡ None

-- The row was stored anew: all its values are moved out that the plan moves, under new numbers, and those that were outside
-- are erased.
pub record StoresAnew (x : Transactions) (s : ℕ) (key : RowKey) (columns : List Column) (old new : Tables) : Type 0 where
  pub row : List Cell
  pub found : cells_at x (current x s) old key ≡ Some row
  pub outside : List Bool
  pub planned : outside ≡ outside_of columns (cell_lengths row)
  pub whole : List Cell
  pub whole_is : (kept : Kept x old) → whole ≡ whole_row kept.told row
  pub changes : ChangesRow x s key (all_moved outside whole (next_number old.chunks)) (dropped row []) (Some (all_settled outside whole (next_number old.chunks))) old new

-- Some rows of a table were stored anew, one after another, and no other row changed. For all edits that the tables stood for
-- they now stand for one put more of each of these rows.
pub record StoresRows (x : Transactions) (s : ℕ) (number : ℕ) (columns : List Column) (ids : List ℤ) (old new : Tables) : Type 0 where
  pub kept : Kept x new
  pub stores : Go x new
  pub left : LeavesOwn x s old new
  pub others : (id : ℤ) → Each (λ (other : ℤ). other ≢ id) ids → versions_of new (row_key number id) ≡ versions_of old (row_key number id)
  pub stands : (name : List ℕ) → IsTable old name number → (ys : List (Edit Deed)) → StandFor x old ys → StandFor x new (ys ++ edits_by x.clock (Running s (length (levels_of x s))) (puts_anew name columns (here_of (world x old s) ys) ids))

-- each of some rows of a table is there, under an id of 64 bits
abbrev pub AreThere : Transactions → (session : ℕ) → Tables → (number : ℕ) → List Column → List ℤ → Type 0
AreThere x s tables n columns ids = Each (λ (id : ℤ). FitsSigned w64 id × IsThere x s tables (row_key n id) columns) ids

-- The table has other columns of the same types, and all else is as it was.
pub record HasNewColumns (number : ℕ) (columns : List Column) (old new : Tables) : Type 0 where
  pub rows : new.rows ≡ old.rows
  pub chunks : new.chunks ≡ old.chunks
  pub cursors : new.cursors ≡ old.cursors
  pub catalog : new.catalog ≡ with_columns number columns old.catalog
