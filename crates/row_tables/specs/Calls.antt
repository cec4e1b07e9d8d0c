-- What the calls on tables and rows are given, and what refuses them before a row is looked at.
use Rattle.std.specs.Prelude.{◌≡◌, ℕ, pos, List, [], ◌∷◌, Option, Some, None, codes, slice_get}
use Rattle.lo_base.specs.declared.column.Column.{Column}
use Rattle.lo_base.specs.declared.refusal.Cause.TheVariants.{NoTable}
use Rattle.lo_base.specs.declared.refusal.Refusal.{Refusal}
use Rattle.lo_base.specs.declared.value.Value.{Value}
use Rattle.lo_model.specs.Database.{Table}
use Rattle.toast_plan.specs.Row.{AreRowValues, FitsType}
use Rattle.xact_core.specs.Transactions.{Transactions}
use Rattle.row_versions.specs.Search.{busy_at}
use Rattle.row_tables.specs.declared.change.Change.{Change}
use Rattle.row_tables.specs.declared.row_key.RowKey.{RowKey}
use Rattle.row_tables.specs.declared.tables.Tables.{Tables}
use Rattle.row_tables.specs.Catalog.{number_in, table_in}
use Rattle.row_tables.specs.Keys.{key_cmp}
use Rattle.row_tables.specs.Terms.{held_by_session, refusal}
use Rattle.row_tables.specs.Values.{change_of}

-- a table of the name has the number
pub record IsTable (tables : Tables) (name : List ℕ) (number : ℕ) : Type 0 where
  pub table : Table
  pub is : number_in name tables.catalog ≡ Some number
  pub there : slice_get tables.catalog number ≡ Some table
  pub named : table.name ≡ name
  pub found : table_in name tables.catalog ≡ Some table

-- there is none, which the refusal says
pub record IsNoTable (tables : Tables) (name : List ℕ) (r : Refusal) : Type 0 where
  pub none : table_in name tables.catalog ≡ None
  pub refused : r ≡ refusal NoTable (pos 0)

-- another session holds a row, which the refusal says
abbrev pub IsHeld : Transactions → (session : ℕ) → Tables → RowKey → Refusal → Type 0
IsHeld x s tables key r = held_by_session (busy_at key_cmp x s tables.rows key) ≡ Some r

-- values that make a row of the table, where it is there
abbrev pub FitTable : Tables → (table : List ℕ) → List Value → Type 0
FitTable tables name row = (t : Table) → table_in name tables.catalog ≡ Some t → AreRowValues t.columns row

-- a change of a column, where there is one, has a value that fits it
abbrev pub FitsIfChanged : Column → Option Change → Type 0
FitsIfChanged c None = Unit {0}
FitsIfChanged c (Some change) = FitsType c.kind change.value

abbrev pub ChangesFit : List Change → List Column → Type 0
ChangesFit changes [] = Unit {0}
ChangesFit changes (c ∷ cs) = FitsIfChanged c (change_of c.name changes) × ChangesFit changes cs

-- changes that rows of some columns can have: each fits its column, and none is of the id
pub record FitRows (changes : List Change) (columns : List Column) : Type 0 where
  pub fit : ChangesFit changes columns
  pub id : change_of (codes "id") changes ≡ None

-- the same of a table, where it is there
abbrev pub ChangesFitTable : Tables → (table : List ℕ) → List Change → Type 0
ChangesFitTable tables name changes = (t : Table) → table_in name tables.catalog ≡ Some t → FitRows changes t.columns
