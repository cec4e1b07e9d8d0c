-- Rows that are judged before a rewrite: their lengths under other columns, the ids of the table, and who holds a row of it.
use Rattle.std.proofs.Common.{◌≡◌, ℕ, zero, suc, ◌+◌, ◌<◌, ℤ, pos, Bool, true, false, List, [], ◌∷◌, length, map, Option, Some, None, refl, ap, sym, subst, ◌∙◌, arith}
use Rattle.std.specs.Prelude.{◌||◌, FitsSigned, drop, get_or, is_some, slice_get, take}
use Rattle.std.specs.Int.{w64}
use Rattle.std.specs.List.{list_any}
use Rattle.std.specs.Ordering.{int_eq}
use Rattle.std.proofs.lemmas.Bool.{false≢true}
use Rattle.std.proofs.lemmas.Bool.Decides.{Decides-int_eq}
use Rattle.std.proofs.lemmas.List.{drop_more}
use Rattle.lo_base.specs.declared.column.Column.{Column}
use Rattle.lo_base.specs.declared.refusal.Cause.TheVariants.{Busy}
use Rattle.lo_base.specs.declared.refusal.Refusal.{Refusal}
use Rattle.lo_base.specs.declared.value.Cell.{Cell}
use Rattle.lo_model.specs.Edit.{Deed, Edit}
use Rattle.toast_plan.specs.Columns.{AreLengths}
use Rattle.toast_plan.specs.Row.{value_lengths}
use Rattle.xact_core.specs.declared.snapshot.Snapshot.{Snapshot}
use Rattle.xact_core.specs.Kept.{current}
use Rattle.xact_core.specs.Transactions.{Transactions}
use Rattle.row_versions.specs.Looks.{IsLook}
use Rattle.row_versions.specs.Search.{IsFreeIn, IsLowestIn, busy_at}
use Rattle.row_versions.specs.Stack.{Each}
use Rattle.toast_chunks.specs.Values.{next_number}
use Rattle.row_tables.specs.declared.row_key.RowKey.{RowKey}
use Rattle.row_tables.specs.declared.tables.Tables.{Tables}
use Rattle.row_tables.specs.Calls.{IsTable}
use Rattle.row_tables.specs.Catalog.{columns_in}
use Rattle.row_tables.specs.Cells.{AreCells, cell_lengths}
use Rattle.row_tables.specs.Keys.{key_cmp, row_key}
use Rattle.row_tables.specs.Reading.{ListsIds}
use Rattle.row_tables.specs.RewriteRules.{some_too_big, values_of}
use Rattle.row_tables.specs.Rewriting.{IsFreeTable, IsHeldTable, IsThere, AreThere, SameKinds, first_too_big, too_big_at, too_big_if_there}
use Rattle.row_tables.specs.Row.{Here}
use Rattle.row_tables.specs.Standing.{HasCells, Kept, StandFor, cells_at}
use Rattle.row_tables.specs.Terms.{first_of, refusal, row_too_big}
use Rattle.row_tables.specs.World.{here_in, world}
use Rattle.row_tables.proofs.Between.{between_table, highest_id, key_between, lowest_id}
use Rattle.row_tables.proofs.EachOf.{cons_same}
use Rattle.row_tables.proofs.Judging.{values_are}
use Rattle.row_tables.proofs.Planned.{lengths_fit, lengths_told}
use Rattle.row_tables.proofs.ReadRows.{has_cells}
use Rattle.row_tables.proofs.Storages.{lengths_alike}

-- the cells of a row that is there
pub row_cells : (x : Transactions) (v : Snapshot) (tables : Tables) (kept : Kept x tables) → IsLook x v → (key : RowKey) (row : List Cell) → cells_at x v tables key ≡ Some row → AreCells kept.told key (next_number tables.chunks) (columns_in (slice_get tables.catalog key.table)) row
row_cells x v tables kept look key row found = subst (λ (content : Option (List Cell)). HasCells kept.told key tables content) found (has_cells x v tables kept look key)

-- its lengths are lengths for columns of the same types
pub row_lengths : (x : Transactions) (v : Snapshot) (tables : Tables) (kept : Kept x tables) → IsLook x v → (key : RowKey) (row : List Cell) → cells_at x v tables key ≡ Some row → (columns : List Column) → SameKinds (columns_in (slice_get tables.catalog key.table)) columns → AreLengths columns (cell_lengths row)
row_lengths x v tables kept look key row found columns same = lengths_alike (columns_in (slice_get tables.catalog key.table)) columns (cell_lengths row) same (lengths_fit kept.told key (next_number tables.chunks) (columns_in (slice_get tables.catalog key.table)) row (row_cells x v tables kept look key row found))

-- one row after another

pub judged_here : (term : ℤ → Option Refusal) (ids : List ℤ) (i : ℕ) (r : Refusal) → i < length ids → term (get_or ids i (pos 0)) ≡ Some r → first_of (map term ids) ≡ first_of (map term (drop i ids)) → first_of (map term ids) ≡ Some r
judged_here term ids i r within is before = before ∙ (ap (λ (left : List ℤ). first_of (map term left)) (drop_more ids i (pos 0) within) ∙ ap (λ (o : Option Refusal). first_of (o ∷ map term (drop (i + 1) ids))) is)

pub judged_on : (term : ℤ → Option Refusal) (ids : List ℤ) (i : ℕ) → i < length ids → term (get_or ids i (pos 0)) ≡ None → first_of (map term ids) ≡ first_of (map term (drop i ids)) → first_of (map term ids) ≡ first_of (map term (drop (i + 1) ids))
judged_on term ids i within is before = before ∙ (ap (λ (left : List ℤ). first_of (map term left)) (drop_more ids i (pos 0) within) ∙ ap (λ (o : Option Refusal). first_of (o ∷ map term (drop (i + 1) ids))) is)

none_first : (term : ℤ → Option Refusal) (ids : List ℤ) → first_of (map term ids) ≡ None → Each (λ (id : ℤ). term id ≡ None) ids
none_first term [] none = tt
none_first term (id ∷ ids) none = by (term id) refl none (none_first term ids)
  where
    by : (o : Option Refusal) → term id ≡ o → first_of (o ∷ map term ids) ≡ None → (first_of (map term ids) ≡ None → Each (λ (i : ℤ). term i ≡ None) ids) → (term id ≡ None) × Each (λ (i : ℤ). term i ≡ None) ids
    by None is left rest = (is, rest left)
    by (Some r) is left rest = absurd (false≢true (ap is_some (sym left)))

-- members of a list of ids

pub each_listed : (P : ℤ → Type 0) (ids : List ℤ) → ((id : ℤ) → list_any (int_eq id) ids ≡ true → P id) → Each P ids
each_listed P [] h = tt
each_listed P (i ∷ ids) h = (h i (ap (λ (b : Bool). b || list_any (int_eq i) ids) ((Decides-int_eq i i).1 refl)), each_listed P ids (λ id there. h id (later (int_eq id i) (list_any (int_eq id) ids) there)))
  where
    later : (a b : Bool) → b ≡ true → (a || b) ≡ true
    later true b there = refl
    later false b there = there

-- the ids that a view lists fit, and their rows are there
abbrev pub IsListed : Transactions → Snapshot → Tables → (number : ℕ) → ℤ → Type 0
IsListed x v tables n id = FitsSigned w64 id × (is_some (cells_at x v tables (row_key n id)) ≡ true)

pub all_listed : (x : Transactions) (v : Snapshot) (tables : Tables) (number : ℕ) (ids : List ℤ) → ListsIds x v tables number ids → Each (IsListed x v tables number) ids
all_listed x v tables number ids lists = each_listed (IsListed x v tables number) ids (λ id is. (lists.only id is, sym (lists.each id (lists.only id is)) ∙ is))

pub all_fit : (x : Transactions) (v : Snapshot) (tables : Tables) (number : ℕ) (ids : List ℤ) → ListsIds x v tables number ids → Each (FitsSigned w64) ids
all_fit x v tables number ids lists = each_listed (FitsSigned w64) ids lists.only

pub each_at : (P : ℤ → Type 0) (ids : List ℤ) (i : ℕ) → i < length ids → Each P ids → P (get_or ids i (pos 0))
each_at P [] i within each = absurd (omega (arith, within))
each_at P (id ∷ ids) zero within each = each.0
each_at P (id ∷ ids) (suc i) within each = each_at P ids i (omega (arith, within)) each.1

pub each_take : (P : ℤ → Type 0) (ids : List ℤ) (i : ℕ) → Each P ids → Each P (take i ids)
each_take P ids zero each = tt
each_take P [] (suc i) each = tt
each_take P (id ∷ ids) (suc i) each = (each.0, each_take P ids i each.1)

-- rows that were judged are there

there_of : (x : Transactions) (s : ℕ) (tables : Tables) (key : RowKey) (columns : List Column) → is_some (cells_at x (current x s) tables key) ≡ true → too_big_if_there columns (cells_at x (current x s) tables key) ≡ None → busy_at key_cmp x s tables.rows key ≡ None → IsThere x s tables key columns
there_of x s tables key columns there small free = by (cells_at x (current x s) tables key) refl there small
  where
    by : (content : Option (List Cell)) → cells_at x (current x s) tables key ≡ content → is_some content ≡ true → too_big_if_there columns content ≡ None → IsThere x s tables key columns
    by None found is fits = absurd (false≢true is)
    by (Some row) found is fits = record { row = row; found = found; small = fits; free = free }

pub all_there : (x : Transactions) (s : ℕ) (tables : Tables) (number : ℕ) (columns : List Column) (ids : List ℤ) → ListsIds x (current x s) tables number ids → first_too_big x (current x s) tables number columns ids ≡ None → IsFreeTable x s tables number → AreThere x s tables number columns ids
all_there x s tables number columns ids lists small free = each ids (all_listed x (current x s) tables number ids lists) (none_first (too_big_at x (current x s) tables number columns) ids small)
  where
    each : (left : List ℤ) → Each (IsListed x (current x s) tables number) left → Each (λ (id : ℤ). too_big_at x (current x s) tables number columns id ≡ None) left → AreThere x s tables number columns left
    each [] are fits = tt
    each (id ∷ left) are fits = ((are.0.0, there_of x s tables (row_key number id) columns are.0.1 fits.0 (free.free id are.0.0)), each left are.1 fits.1)

-- the rows that are too big, by their values

module _ (x : Transactions) (tables : Tables) (s : ℕ) (v : Snapshot) (look : IsLook x v) (name : List ℕ) (number : ℕ) (is : IsTable tables name number) (ys : List (Edit Deed)) (stand : StandFor x tables ys) where
  abbrev here : Here
  here = here_in (world x tables s) v ys

  big_one : (columns : List Column) (id : ℤ) → is_some (cells_at x v tables (row_key number id)) ≡ true → too_big_at x v tables number columns id ≡ row_too_big columns (value_lengths (values_of name here id))
  big_one columns id there = by (cells_at x v tables (row_key number id)) refl there
    where
      by : (content : Option (List Cell)) → cells_at x v tables (row_key number id) ≡ content → is_some content ≡ true → too_big_if_there columns (cells_at x v tables (row_key number id)) ≡ row_too_big columns (value_lengths (values_of name here id))
      by None found some = absurd (false≢true some)
      by (Some row) found some =
          ap (too_big_if_there columns) found
          ∙ ap (row_too_big columns) (lengths_told stand.kept.told (row_key number id) (next_number tables.chunks) row (row_cells x v tables stand.kept look (row_key number id) row found).each ∙ ap value_lengths (sym (values_are x tables s v look name number is ys id stand row found)))

  big_all : (columns : List Column) (ids : List ℤ) → Each (IsListed x v tables number) ids → map (too_big_at x v tables number columns) ids ≡ map (λ (i : ℤ). row_too_big columns (value_lengths (values_of name here i))) ids
  big_all columns [] are = refl
  big_all columns (id ∷ ids) are = cons_same (too_big_at x v tables number columns id) (row_too_big columns (value_lengths (values_of name here id))) (map (too_big_at x v tables number columns) ids) (map (λ (i : ℤ). row_too_big columns (value_lengths (values_of name here i))) ids) (big_one columns id are.0.1) (big_all columns ids are.1)

  pub big_is : (columns : List Column) (ids : List ℤ) → ListsIds x v tables number ids → some_too_big name columns here ids ≡ first_too_big x v tables number columns ids
  big_is columns ids lists = ap first_of (sym (big_all columns ids (all_listed x v tables number ids lists)))

-- who holds a row of the table

module _ (x : Transactions) (s : ℕ) (tables : Tables) (number : ℕ) where
  pub free_all : IsFreeIn key_cmp x s tables.rows (row_key number lowest_id) (row_key number highest_id) → IsFreeTable x s tables number
  free_all free = record { free = λ id fits. free.free (row_key number id) (key_between number id fits) }

  pub held_one : (t : ℕ) (r : Refusal) → IsLowestIn key_cmp x s tables.rows (row_key number lowest_id) (row_key number highest_id) t → r ≡ refusal Busy (pos t) → IsHeldTable x s tables number r
  held_one t r is says = record {
    holder = t;
    says = says;
    id = is.key.id;
    here = subst (λ (k : RowKey). busy_at key_cmp x s tables.rows k ≡ Some t) (between_table number lowest_id highest_id is.key is.between) is.here;
    lowest = λ other u fits held. is.lowest (row_key number other) u (key_between number other fits) held;
  }
