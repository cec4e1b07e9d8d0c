-- The numbers that the rows of a view have in a column, row by row.
use Rattle.std.proofs.Common.{◌≡◌, ◌<◌, ◌≤◌, ℕ, ℤ, ◌+◌, Bool, true, false, cond, List, [], ◌∷◌, ◌++◌, length, map, drop, get_or, Option, Some, None, refl, ap, ap₂, sym, ◌∙◌, arith, append-nil, append_assoc, inl, inr, ◌⊎◌}
use Rattle.std.specs.Prelude.{bytes_eq, option_map, slice_get}
use Rattle.std.specs.List.{AllByRecursion, flat_map}
use Rattle.std.specs.Option.{unwrap_or}
use Rattle.std.proofs.lemmas.Bool.{cases_lt}
use Rattle.std.proofs.lemmas.Option.{none-some, slice_get-get_or, slice_get-map, slice_get_past, slice_get_within, get_or_from_slice_get}
use Rattle.lo_base.specs.declared.column.Column.{Column}
use Rattle.lo_base.specs.declared.value.Cell.{Cell}
use Rattle.lo_base.specs.declared.value.Cell.TheVariants as cells
use Rattle.lo_base.specs.declared.value.Value.{Value}
use Rattle.lo_base.specs.declared.value.Value.TheVariants as values
use Rattle.lo_model.specs.Database.{Table}
use Rattle.lo_model.specs.Edit.{Deed, Edit}
use Rattle.lo_model.specs.Listing.{has_row, ids_in}
use Rattle.lo_restore.specs.TablesSaved.{HasRowThere, HasTable, row_values}
use Rattle.lo_restore.proofs.ListsLeft.{next_got, none_left}
use Rattle.lo_restore.proofs.RowsSaved.{edits_seen}
use Rattle.row_tables.specs.declared.tables.Tables.{Tables}
use Rattle.row_tables.specs.Catalog.{columns_in, columns_of, table_in}
use Rattle.row_tables.specs.RowRules.{value_under}
use Rattle.row_tables.specs.Standing.{StandFor, tables_in}
use Rattle.row_tables.specs.Values.{cell_of, cells_of}
use Rattle.xact_core.specs.declared.snapshot.Snapshot.{Snapshot}
use Rattle.xact_core.specs.Transactions.{Transactions}
use Rattle.lo_machine.specs.SweepRows.{number_in}

-- ---- the number of one cell

abbrev pub cell_number : Cell → List ℕ
cell_number (cells.Oid o) = o ∷ []
cell_number cells.Null = []
cell_number (cells.Int n) = []
cell_number (cells.Inline bytes) = []
cell_number (cells.Text bytes) = []
cell_number (cells.Outside length number) = []

abbrev value_at : Option Value → Value
value_at None = values.Null
value_at (Some v) = v

pub number_told : (v : Value) → number_in v ≡ cell_number (cell_of v)
number_told values.Null = refl
number_told (values.Int n) = refl
number_told (values.Oid o) = refl
number_told (values.Bytes bytes) = refl

cell_of_value : (o : Option Value) (cell : Cell) → option_map cell_of o ≡ Some cell → cell ≡ cell_of (value_at o)
cell_of_value None cell is = absurd (none-some cell is)
cell_of_value (Some v) cell is = ap (λ (p : Option Cell). unwrap_or p cell) (sym is)

no_cell : (o : Option Value) → option_map cell_of o ≡ None → number_in (value_at o) ≡ []
no_cell None is = refl
no_cell (Some v) is = absurd (none-some (cell_of v) (sym is))

-- ---- the columns that are left

no_value : (name : List ℕ) (columns : List Column) → value_under name columns [] ≡ values.Null
no_value name [] = refl
no_value name (c ∷ columns) = refl

column_next : (columns : List Column) (i : ℕ) (c : Column) → slice_get columns i ≡ Some c → drop i columns ≡ c ∷ drop (i + 1) columns
column_next columns i c there = next_got columns i c (slice_get_within columns i c there) ∙ ap (λ (d : Column). d ∷ drop (i + 1) columns) (get_or_from_slice_get columns i c c there)

either_way : (b : Bool) → values.Null ≡ cond b values.Null values.Null
either_way true = refl
either_way false = refl

-- the value of the first column that is left
under_first : (name : List ℕ) (c : Column) (left : List Column) (vs : List Value) (i : ℕ) → value_under name (c ∷ left) (drop i vs) ≡ cond (bytes_eq c.name name) (value_at (slice_get vs i)) (value_under name left (drop (i + 1) vs))
under_first name c left vs i = by (cases_lt i (length vs))
  where
    by : (i < length vs) ⊎ (length vs ≤ i) → value_under name (c ∷ left) (drop i vs) ≡ cond (bytes_eq c.name name) (value_at (slice_get vs i)) (value_under name left (drop (i + 1) vs))
    by (inl within) =
        let v = get_or vs i values.Null in
        ap (value_under name (c ∷ left)) (next_got vs i values.Null within)
        ∙ ap (λ (o : Option Value). cond (bytes_eq c.name name) (value_at o) (value_under name left (drop (i + 1) vs))) (sym (slice_get-get_or vs i values.Null within))
    by (inr past) =
        let none : drop i vs ≡ [] = none_left vs i past in
        let behind : drop (i + 1) vs ≡ [] = none_left vs (i + 1) (omega (arith, past)) in
        rw (none, behind, slice_get_past vs i past, no_value name left) (either_way (bytes_eq c.name name))

-- None of the columns before a place has the name.
pub record Seeking (name : List ℕ) (columns : List Column) (place : ℕ) : Type 0 where
  pub under : (vs : List Value) → value_under name (drop place columns) (drop place vs) ≡ value_under name columns vs

pub seeking_first : (name : List ℕ) (columns : List Column) → Seeking name columns 0
seeking_first name columns = record { under = λ vs. refl }

module _ (name : List ℕ) (columns : List Column) (place : ℕ) (seeking : Seeking name columns place) where
  under_here : (c : Column) → slice_get columns place ≡ Some c → (vs : List Value) → value_under name columns vs ≡ cond (bytes_eq c.name name) (value_at (slice_get vs place)) (value_under name (drop (place + 1) columns) (drop (place + 1) vs))
  under_here c there vs =
      sym (seeking.under vs)
      ∙ (ap (λ (cs : List Column). value_under name cs (drop place vs)) (column_next columns place c there)
      ∙ under_first name c (drop (place + 1) columns) vs place)

  pub seeking_next : (c : Column) → slice_get columns place ≡ Some c → bytes_eq c.name name ≡ false → Seeking name columns (place + 1)
  seeking_next c there other = record {
    under = λ vs. sym (under_here c there vs ∙ ap (λ b. cond b (value_at (slice_get vs place)) (value_under name (drop (place + 1) columns) (drop (place + 1) vs))) other);
  }

  module _ (c : Column) (there : slice_get columns place ≡ Some c) (same : bytes_eq c.name name ≡ true) (row : List Cell) (vs : List Value) (is : row ≡ cells_of vs) where
    value_here : value_under name columns vs ≡ value_at (slice_get vs place)
    value_here = under_here c there vs ∙ ap (λ b. cond b (value_at (slice_get vs place)) (value_under name (drop (place + 1) columns) (drop (place + 1) vs))) same

    cell_there : option_map cell_of (slice_get vs place) ≡ slice_get row place
    cell_there = sym (slice_get-map cell_of vs place) ∙ ap (λ (r : List Cell). slice_get r place) (sym is)

    pub cell_here : (cell : Cell) → slice_get row place ≡ Some cell → cell ≡ cell_of (value_under name columns vs)
    cell_here cell at = cell_of_value (slice_get vs place) cell (cell_there ∙ at) ∙ ap cell_of (sym value_here)

    pub none_here : slice_get row place ≡ None → number_in (value_under name columns vs) ≡ []
    none_here at = ap number_in value_here ∙ no_cell (slice_get vs place) (cell_there ∙ at)

  pub no_number : length columns ≤ place → (vs : List Value) → number_in (value_under name columns vs) ≡ []
  no_number past vs = ap number_in (sym (seeking.under vs) ∙ ap (λ (cs : List Column). value_under name cs (drop place vs)) (none_left columns place past))

-- ---- the rows

-- the numbers of some rows in a column
abbrev pub numbers_of : (columns : List Column) → (column : List ℕ) → List (List Value) → List ℕ
numbers_of columns column rows = flat_map (λ row. number_in (value_under column columns row)) rows

pub nothing_under : (column : List ℕ) (rows : List (List Value)) → numbers_of [] column rows ≡ []
nothing_under column [] = refl
nothing_under column (row ∷ rows) = nothing_under column rows

-- The numbers so far, and the ids that are left.
pub record Scanning (x : Transactions) (tables : Tables) (v : Snapshot) (table : List ℕ) (columns : List Column) (column : List ℕ) (ids left : List ℤ) (found : List ℕ) : Type 0 where
  pub all : (ys : List (Edit Deed)) → StandFor x tables ys → found ++ numbers_of columns column (map (row_values (edits_seen v ys) table) left) ≡ numbers_of columns column (map (row_values (edits_seen v ys) table) ids)
  pub there : AllByRecursion (HasRowThere x tables v table) left

module _ (x : Transactions) (tables : Tables) (v : Snapshot) (table : List ℕ) (columns : List Column) (column : List ℕ) where
  pub scanning_begins : (ids : List ℤ) → AllByRecursion (HasRowThere x tables v table) ids → Scanning x tables v table columns column ids ids []
  scanning_begins ids there = record { all = λ ys stand. refl; there = there }

  pub scanning_next : (ids : List ℤ) (id : ℤ) (left : List ℤ) (found more : List ℕ) → Scanning x tables v table columns column ids (id ∷ left) found → ((ys : List (Edit Deed)) → StandFor x tables ys → more ≡ found ++ number_in (value_under column columns (row_values (edits_seen v ys) table id))) → Scanning x tables v table columns column ids left more
  scanning_next ids id left found more scanning are = record {
    all = λ ys stand.
        let rest = numbers_of columns column (map (row_values (edits_seen v ys) table) left) in
        ap (λ (ns : List ℕ). ns ++ rest) (are ys stand)
        ∙ (append_assoc found (number_in (value_under column columns (row_values (edits_seen v ys) table id))) rest ∙ scanning.all ys stand);
    there = scanning.there.1;
  }

  pub scanning_ends : (ids left : List ℤ) (found : List ℕ) → Scanning x tables v table columns column ids left found → left ≡ [] → (ys : List (Edit Deed)) → StandFor x tables ys → found ≡ numbers_of columns column (map (row_values (edits_seen v ys) table) ids)
  scanning_ends ids left found scanning none ys stand =
      sym (append-nil found)
      ∙ (ap (λ (is : List ℤ). found ++ numbers_of columns column (map (row_values (edits_seen v ys) table) is)) (sym none) ∙ scanning.all ys stand)

  -- rows of a view are there
  pub rows_there : HasTable tables table → (ys : List (Edit Deed)) → StandFor x tables ys → (ids : List ℤ) → AllByRecursion (λ i. has_row (edits_seen v ys) table i ≡ true) ids → AllByRecursion (HasRowThere x tables v table) ids
  rows_there has ys stand [] all = tt
  rows_there has ys stand (i ∷ ids) all = (record { table = has; edits = ys; stand = stand; there = all.0 }, rows_there has ys stand ids all.1)

-- ---- the table of a name

pub table_known : (name : List ℕ) (tables : Tables) (columns : List Column) → Some columns ≡ option_map columns_of (table_in name (tables_in tables)) → HasTable tables name
table_known name tables columns is = by (table_in name (tables_in tables)) refl
  where
    by : (o : Option Table) → table_in name (tables_in tables) ≡ o → HasTable tables name
    by None at = absurd (none-some columns (sym (is ∙ ap (option_map columns_of) at)))
    by (Some table) at = record { table = table; there = at }

pub its_columns : (o : Option Table) (columns : List Column) → Some columns ≡ option_map columns_of o → columns ≡ columns_in o
its_columns None columns is = absurd (none-some columns (sym is))
its_columns (Some table) columns is = ap (λ (p : Option (List Column)). unwrap_or p columns) is

pub no_columns : (o : Option Table) → None ≡ option_map columns_of o → columns_in o ≡ []
no_columns None is = refl
no_columns (Some table) is = absurd (none-some table.columns is)

-- the same numbers, of the view's rows
pub numbers_same : (columns others : List Column) (column table : List ℕ) (seen view : List (Edit Deed)) (ids : List ℤ) → columns ≡ others → seen ≡ view → ids ≡ ids_in table seen → numbers_of columns column (map (row_values seen table) ids) ≡ numbers_of others column (map (row_values view table) (ids_in table view))
numbers_same columns others column table seen view ids same sees are =
    ap (λ (is : List ℤ). numbers_of columns column (map (row_values seen table) is)) are
    ∙ ap₂ (λ (cs : List Column) (es : List (Edit Deed)). numbers_of cs column (map (row_values es table) (ids_in table es))) same sees
