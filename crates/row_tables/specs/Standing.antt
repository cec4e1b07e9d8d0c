-- What tables stand for: edits of rows, one history a row, and what is told of each value outside.
use Rattle.std.specs.Prelude.{◌≡◌, ◌≤◌, ℕ, ℤ, Bool, false, ◌⊎◌, List, [], ◌∷◌, length, map, filter, Option, Some, None, slice_get, if◌then◌else◌}
use Rattle.std.specs.Int.{w64}
use Rattle.std.specs.Int.RustNames.{FitsSigned}
use Rattle.lo_base.specs.declared.value.Cell.{Cell}
use Rattle.lo_model.specs.Database.{Table}
use Rattle.lo_model.specs.Edit.{Deed, Create, Write, Cut, Unlink, Put, Delete, Edit}
use Rattle.lo_model.specs.Row.{is_row}
use Rattle.xact_core.specs.declared.snapshot.Snapshot.{Snapshot}
use Rattle.xact_core.specs.Transactions.{Transactions}
use Rattle.row_versions.specs.Found.{given}
use Rattle.row_versions.specs.Search.{finds_at}
use Rattle.row_versions.specs.Stack.{Each}
use Rattle.row_versions.specs.Stands.{Version, BusyAlike, Stands, replaces, standing}
use Rattle.row_versions.specs.Store.{GoesWith, versions_at}
use Rattle.toast_chunks.specs.Standing.{Stand}
use Rattle.toast_chunks.specs.Values as chunks
use Rattle.row_tables.specs.declared.cursors.Cursors.{Cursors}
use Rattle.row_tables.specs.declared.row_key.RowKey.{RowKey}
use Rattle.row_tables.specs.declared.tables.Tables.{Tables}
use Rattle.row_tables.specs.Catalog.{columns_in, table_in}
use Rattle.row_tables.specs.Cells.{AreCells, Told, has_number, stored_told, values_told}
use Rattle.row_tables.specs.Keys.{key_cmp}

-- what contracts read of tables beside rows: the tables themselves, and the open cursors

abbrev pub tables_in : Tables → List Table
tables_in tables = tables.catalog

abbrev pub cursors_in : Tables → Cursors
cursors_in tables = tables.cursors

-- what a row's versions put, and what a view finds of a row
abbrev pub versions_of : Tables → RowKey → List (Version (Option (List Cell)))
versions_of tables key = versions_at key_cmp tables.rows key

abbrev pub cells_at : Transactions → Snapshot → Tables → RowKey → Option (List Cell)
cells_at x v tables key = finds_at key_cmp x v tables.rows key

-- the bytes that an edit of a row leaves of a value outside: the value where the row has its number
abbrev pub gives : (ℕ → Told) → (number : ℕ) → (clock : ℕ) → Option (List Cell) → List ℕ
gives told n clock None = []
gives told n clock (Some row) = if has_number row n then (told n).bytes else []

-- an edit of a row leaves none, or cells of its table
abbrev pub HasCells : (ℕ → Told) → RowKey → Tables → Option (List Cell) → Type 0
HasCells told key tables None = Unit {0}
HasCells told key tables (Some row) = AreCells told key (chunks.next_number tables.chunks) (columns_in (slice_get tables.catalog key.table)) row

-- a key that no row can have
abbrev pub IsNoKey : Tables → RowKey → Type 0
IsNoKey tables key = (length tables.catalog ≤ key.table) ⊎ (FitsSigned w64 key.id → ⊥)

-- What is kept of rows: of each value outside what is told of it, and of each row the edits that its versions stand for. The
-- chunks of a value stand for the edits of the row that it is of.
pub record Kept (x : Transactions) (tables : Tables) : Type 0 where
  pub told : ℕ → Told
  pub edits : RowKey → List (Edit (Option (List Cell)))
  pub rows : (key : RowKey) → Stands x given (replaces given) None (versions_of tables key) (edits key)
  pub alike : (key : RowKey) → BusyAlike (standing x (versions_of tables key) ∷ []) (edits key)
  pub values : (n : ℕ) → Stand (gives told n) x tables.chunks n (edits (told n).home)
  pub cells : (key : RowKey) → Each (λ (e : Edit (Option (List Cell))). HasCells told key tables e.deed) (edits key)
  pub none : (key : RowKey) → IsNoKey tables key → edits key ≡ []

-- the edits of a row, as the model has them

abbrev pub deed_told : (ℕ → Told) → (table : List ℕ) → (id : ℤ) → Option (List Cell) → Deed
deed_told told t i None = Delete t i
deed_told told t i (Some row) = Put t i (values_told told row) (stored_told told row)

abbrev pub edit_told : (ℕ → Told) → (table : List ℕ) → (id : ℤ) → Edit (Option (List Cell)) → Edit Deed
edit_told told t i e = record { clock = e.clock; owner = e.owner; deed = deed_told told t i e.deed }

abbrev pub is_of_row : (table : List ℕ) → (id : ℤ) → Deed → Bool
is_of_row t i (Create o) = false
is_of_row t i (Write o at bytes) = false
is_of_row t i (Cut o size) = false
is_of_row t i (Unlink o) = false
is_of_row t i (Put u j values stored) = is_row t i u j
is_of_row t i (Delete u j) = is_row t i u j

-- the edits of one row
abbrev pub at_row : (table : List ℕ) → (id : ℤ) → List (Edit Deed) → List (Edit Deed)
at_row t i ys = filter (λ (e : Edit Deed). is_of_row t i e.deed) ys

-- the edits of each row are those that are kept of it
pub record ReadsAs (x : Transactions) (tables : Tables) (kept : Kept x tables) (ys : List (Edit Deed)) : Type 0 where
  pub rows : (key : RowKey) (table : Table) → slice_get tables.catalog key.table ≡ Some table → at_row table.name key.id ys ≡ map (edit_told kept.told table.name key.id) (kept.edits key)

abbrev pub IsUnknown : Tables → (name : List ℕ) → Type 0
IsUnknown tables name = table_in name tables.catalog ≡ None

-- Tables stand for edits: those of each row are kept of it, and there is none of a table that is not there. Edits of objects
-- may stand among them.
pub record StandFor (x : Transactions) (tables : Tables) (ys : List (Edit Deed)) : Type 0 where
  pub kept : Kept x tables
  pub reads : ReadsAs x tables kept ys
  pub known : (name : List ℕ) (id : ℤ) → IsUnknown tables name → at_row name id ys ≡ []

-- The stores of tables go with their transactions.
pub record Go (x : Transactions) (tables : Tables) : Type 0 where
  pub rows : GoesWith key_cmp x tables.rows
  pub chunks : chunks.GoWith x tables.chunks

-- Tables go with their transactions, and stand for some edits of each row. Each call needs this and keeps it, and so does each
-- call of the transactions.
pub record GoWith (x : Transactions) (tables : Tables) : Type 0 where
  pub stores : Go x tables
  pub kept : Kept x tables
