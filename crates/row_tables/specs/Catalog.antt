-- The tables with their columns, and the index of their names.
use Rattle.std.specs.Prelude.{◌≡◌, ◌≤◌, ℕ, zero, suc, ◌+◌, List, [], ◌∷◌, length, map, Option, Some, None, bytes_eq, if◌then◌else◌}
use Rattle.std.specs.BTreeMap.{BTreeMap, get_by}
use Rattle.std.specs.Cmp.Lexicographic.{slice_cmp}
use Rattle.std.specs.List.{AllByRecursion, find}
use Rattle.std.specs.Ordering.{nat_cmp}
use Rattle.std.specs.declared.alloc.Global.{Global}
use Rattle.std.specs.declared.vec.Vec.{Vec}
use Rattle.lo_base.specs.declared.column.Column.{Column}
use Rattle.lo_model.specs.Database.{Table}
use Rattle.toast_plan.specs.Columns.{AreDistinct, IsTableColumns}
use Rattle.row_tables.specs.declared.catalog.Entry.{Entry}

-- the most tables of a database
abbrev pub most_tables : ℕ
most_tables = 1000

abbrev pub table_in : (name : List ℕ) → List Table → Option Table
table_in name tables = find (λ (t : Table). bytes_eq t.name name) tables

abbrev pub name_of : Table → List ℕ
name_of t = t.name

abbrev pub columns_of : Table → List Column
columns_of t = t.columns

-- no columns where there is no table
abbrev pub columns_in : Option Table → List Column
columns_in None = []
columns_in (Some t) = t.columns

-- the place of the first table of a name, where the list's first one has a number
abbrev pub number_from : (first : ℕ) → (name : List ℕ) → List Table → Option ℕ
number_from k name [] = None
number_from k name (t ∷ ts) = if bytes_eq t.name name then Some k else number_from (k + 1) name ts

abbrev pub number_in : (name : List ℕ) → List Table → Option ℕ
number_in name tables = number_from 0 name tables

-- the tables with other columns of the one at a place
abbrev pub with_columns : (number : ℕ) → List Column → List Table → List Table
with_columns n columns [] = []
with_columns zero columns (t ∷ ts) = record { name = t.name; columns = columns } ∷ ts
with_columns (suc n) columns (t ∷ ts) = t ∷ with_columns n columns ts

-- tables of a database: not too many, no two of one name, each with columns that a table can have
pub record AreTables (tables : List Table) : Type 0 where
  pub few : length tables ≤ most_tables
  pub distinct : AreDistinct (map name_of tables)
  pub columns : AllByRecursion (λ (t : Table). IsTableColumns t.columns) tables

abbrev pub table_of : Entry → Table
table_of e = record { name = e.name; columns = e.columns }

abbrev pub tables_of : List Entry → List Table
tables_of entries = map table_of entries

-- the entries are tables, and the map has the place of each by its name
pub record IsIndex (entries : List Entry) (numbers : BTreeMap (Vec ℕ Global) ℕ) : Type 0 where
  pub tables : AreTables (tables_of entries)
  pub found : (name : List ℕ) → get_by (λ (key : Vec ℕ Global). slice_cmp nat_cmp name key.items) numbers ≡ number_in name (tables_of entries)
