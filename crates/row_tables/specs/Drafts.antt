-- The new cells of a row, made before anything is changed, and why there are none.
use Rattle.std.specs.Prelude.{◌≡◌, ℕ, List, length, take, Some, None, slice_get}
use Rattle.lo_base.specs.declared.column.Column.{Column}
use Rattle.lo_base.specs.declared.refusal.Cause.TheVariants.{NoRow}
use Rattle.lo_base.specs.declared.refusal.Denied.{Denied}
use Rattle.lo_base.specs.declared.refusal.Denied.TheVariants.{By, NoMemory}
use Rattle.lo_base.specs.declared.refusal.Refusal.{Refusal}
use Rattle.lo_base.specs.declared.value.Cell.{Cell}
use Rattle.toast_plan.specs.Choice.{IsPlanFor}
use Rattle.xact_core.specs.Kept.{current}
use Rattle.xact_core.specs.Transactions.{Transactions}
use Rattle.row_versions.specs.Search.{busy_at}
use Rattle.row_tables.specs.declared.change.Change.{Change}
use Rattle.row_tables.specs.declared.change.Draft.{Draft}
use Rattle.row_tables.specs.declared.row_key.RowKey.{RowKey}
use Rattle.row_tables.specs.declared.tables.Tables.{Tables}
use Rattle.row_tables.specs.Calls.{IsHeld}
use Rattle.row_tables.specs.Catalog.{columns_in}
use Rattle.row_tables.specs.Cells.{all_brought, cell_lengths, changed_cells, dropped}
use Rattle.row_tables.specs.Keys.{key_cmp}
use Rattle.row_tables.specs.Standing.{Kept, cells_at}
use Rattle.row_tables.specs.Terms.{refusal, row_too_big}

-- the row is too big, which the refusal says
abbrev pub IsTooBig : List Column → List Cell → Refusal → Type 0
IsTooBig columns row r = row_too_big columns (cell_lengths row) ≡ Some r

-- the columns of a row's table
abbrev pub row_columns : Tables → RowKey → List Column
row_columns tables key = columns_in (slice_get tables.catalog key.table)

-- What an update would make of a row that is there: the new cells with the values inside that the plan wants there, the plan,
-- and the numbers that the new cells no longer have.
pub record IsDraft (x : Transactions) (s : ℕ) (tables : Tables) (key : RowKey) (changes : List Change) (d : Draft) : Type 0 where
  pub old : List Cell
  pub found : cells_at x (current x s) tables key ≡ Some old
  pub free : busy_at key_cmp x s tables.rows key ≡ None
  pub planned : IsPlanFor (row_columns tables key) (cell_lengths (changed_cells changes (row_columns tables key) old)) d.plan
  pub row : (kept : Kept x tables) → d.row.items ≡ all_brought kept.told (take (length (row_columns tables key)) d.plan.outside) (changed_cells changes (row_columns tables key) old)
  pub gone : d.gone.items ≡ dropped old d.row.items

-- the row is there, and would be within its limit
pub record Fits (x : Transactions) (s : ℕ) (tables : Tables) (key : RowKey) (changes : List Change) : Type 0 where
  pub old : List Cell
  pub found : cells_at x (current x s) tables key ≡ Some old
  pub short : row_too_big (row_columns tables key) (cell_lengths (changed_cells changes (row_columns tables key) old)) ≡ None

-- the row is there and would be too big
pub record IsLong (x : Transactions) (s : ℕ) (tables : Tables) (key : RowKey) (changes : List Change) (r : Refusal) : Type 0 where
  pub old : List Cell
  pub found : cells_at x (current x s) tables key ≡ Some old
  pub big : IsTooBig (row_columns tables key) (changed_cells changes (row_columns tables key) old) r

-- why there is no draft: the row is not there, or would be too big, or another session holds it
pub data DeniesBy (x : Transactions) (s : ℕ) (tables : Tables) (key : RowKey) (changes : List Change) (r : Refusal) : Type 0 where
  Missing : cells_at x (current x s) tables key ≡ None → r ≡ refusal NoRow key.id → DeniesBy x s tables key changes r
  TooBig : IsLong x s tables key changes r → DeniesBy x s tables key changes r
  Held : Fits x s tables key changes → IsHeld x s tables key r → DeniesBy x s tables key changes r

abbrev pub DeniesDraft : Transactions → (session : ℕ) → Tables → RowKey → List Change → Denied → Type 0
DeniesDraft x s tables key changes (By r) = DeniesBy x s tables key changes r
DeniesDraft x s tables key changes NoMemory = Unit {0}
