-- The loop over a table's ids, and what the rows that it leaves are.
use Rattle.std.proofs.Common.{◌≡◌, ◌<◌, ℕ, ℤ, ◌+◌, ◌^◌, Bool, true, false, cond, List, [], ◌∷◌, ◌++◌, length, map, Option, Some, None, refl, ap, ap₂, sym, subst, ◌∙◌, arith, append-nil, append_assoc}
use Rattle.std.specs.Prelude.{All, bytes_eq, is_some}
use Rattle.std.specs.Option.{unwrap_or}
use Rattle.std.specs.List.{AllByRecursion}
use Rattle.std.specs.List.Sorted.{IsStrictlySortedBy}
use Rattle.std.specs.Ordering.{int_cmp}
use Rattle.std.proofs.lemmas.Bool.{false≢true}
use Rattle.std.proofs.lemmas.List.{length_push}
use Rattle.std.proofs.lemmas.Option.{none-some}
use Rattle.std.proofs.lemmas.Slice.Eq.{bytes_eq-Decides}
use Rattle.lo_base.specs.Name.{IsName}
use Rattle.lo_base.specs.declared.column.Column.{Column}
use Rattle.lo_base.specs.declared.value.Value.{Value}
use Rattle.lo_model.specs.Database.{Table}
use Rattle.lo_model.specs.Edit.{Deed, Edit}
use Rattle.lo_model.specs.Listing.{has_row, ids_in}
use Rattle.lo_model.specs.Row.{Row, row_in}
use Rattle.lo_model.specs.View.{view}
use Rattle.lo_model.proofs.ListingLaws.{ids_ascend}
use Rattle.toast_plan.specs.Columns.{IsTableColumns}
use Rattle.toast_plan.specs.Writing.{HasRange}
use Rattle.xact_core.specs.declared.snapshot.Snapshot.{Snapshot}
use Rattle.xact_core.specs.Transactions.{Transactions}
use Rattle.row_versions.specs.Looks.{IsLook}
use Rattle.row_tables.specs.declared.tables.Tables.{Tables}
use Rattle.row_tables.specs.Catalog.{table_in}
use Rattle.row_tables.specs.RowRules.{values_in}
use Rattle.row_tables.specs.Standing.{StandFor, tables_in}
use Rattle.lo_opening.specs.Opening.{id_of}
use Rattle.lo_restore.specs.TablesSaved.{CanBeSaved, HasRowThere, HasTable, IsRowFit, IsRowOf, IsTable, row_values, rows_in}
use Rattle.lo_restore.proofs.RowsThere.{IsGoodRow, good_row, ids_there}

abbrev pub edits_seen : Snapshot → List (Edit Deed) → List (Edit Deed)
edits_seen v ys = view v.clock v.viewer ys

-- rows that were read, and the ids that are left
pub record RowsRead (x : Transactions) (tables : Tables) (v : Snapshot) (name : List ℕ) (ids left : List ℤ) (rows : List (List Value)) : Type 0 where
  pub all : (ys : List (Edit Deed)) → StandFor x tables ys → rows ++ map (row_values (edits_seen v ys) name) left ≡ map (row_values (edits_seen v ys) name) ids
  pub there : AllByRecursion (HasRowThere x tables v name) left
  pub range : AllByRecursion (λ row. All HasRange row) rows
  pub count : length rows + length left ≡ length ids

pub push_all : {X : Type 0} (P : X → Type 0) (xs : List X) (y : X) → AllByRecursion P xs → P y → AllByRecursion P (xs ++ y ∷ [])
push_all P [] y all is = (is, tt)
push_all P (x ∷ xs) y all is = (all.0, push_all P xs y all.1 is)

module _ (x : Transactions) (tables : Tables) (v : Snapshot) (name : List ℕ) where
  all_there : (can : CanBeSaved x tables v) → HasTable tables name → (ids : List ℤ) → AllByRecursion (λ i. has_row (edits_seen v can.edits) name i ≡ true) ids → AllByRecursion (HasRowThere x tables v name) ids
  all_there can has [] all = tt
  all_there can has (i ∷ ids) all = (record { table = has; edits = can.edits; stand = can.stand; there = all.0 }, all_there can has ids all.1)

  pub reading_begins : (can : CanBeSaved x tables v) → HasTable tables name → (ids : List ℤ) → ids ≡ ids_in name (edits_seen v can.edits) → RowsRead x tables v name ids ids []
  reading_begins can has ids are = record {
    all = λ ys stand. refl;
    there = all_there can has ids (subst (λ (is : List ℤ). AllByRecursion (λ i. has_row (edits_seen v can.edits) name i ≡ true) is) (sym are) (ids_there name (edits_seen v can.edits)));
    range = tt;
    count = omega arith;
  }

  pub reading_next : (ids : List ℤ) (id : ℤ) (left : List ℤ) (rows : List (List Value)) (row : List Value) → RowsRead x tables v name ids (id ∷ left) rows → ((ys : List (Edit Deed)) → StandFor x tables ys → row ≡ row_values (edits_seen v ys) name id) → All HasRange row → RowsRead x tables v name ids left (rows ++ row ∷ [])
  reading_next ids id left rows row reads is range = record {
    all = λ ys stand.
        append_assoc rows (row ∷ []) (map (row_values (edits_seen v ys) name) left)
        ∙ (ap (λ (r : List Value). rows ++ (r ∷ map (row_values (edits_seen v ys) name) left)) (is ys stand) ∙ reads.all ys stand);
    there = reads.there.1;
    range = push_all (λ r. All HasRange r) rows row reads.range range;
    count = let more = length_push rows row in omega (arith, more, reads.count);
  }

  pub reading_ends : (ids left : List ℤ) (rows : List (List Value)) → RowsRead x tables v name ids left rows → left ≡ [] → (ys : List (Edit Deed)) → StandFor x tables ys → ids ≡ ids_in name (edits_seen v ys) → rows ≡ rows_in (edits_seen v ys) name
  reading_ends ids left rows reads none ys stand are =
      sym (append-nil rows)
      ∙ (ap (λ (is : List ℤ). rows ++ map (row_values (edits_seen v ys) name) is) (sym none)
      ∙ (reads.all ys stand ∙ ap (map (row_values (edits_seen v ys) name)) are))

-- ---- what the rows are

row_there : (o : Option Row) → is_some o ≡ true → (row : Row) × (o ≡ Some row)
row_there None is = absurd (false≢true is)
row_there (Some row) is = (row, refl)

module _ (x : Transactions) (tables : Tables) (v : Snapshot) (look : IsLook x v) (can : CanBeSaved x tables v) (name : List ℕ) (table : Table) (named : table.name ≡ name) (there : table_in name (tables_in tables) ≡ Some table) where
  abbrev seen : List (Edit Deed)
  seen = edits_seen v can.edits

  fit_row : (id : ℤ) (row : Row) → row_in name id seen ≡ Some row → IsRowFit table.columns row.values
  fit_row id row found = can.rows table id row (ap (λ (n : List ℕ). table_in n (tables_in tables)) named ∙ there) (ap (λ (n : List ℕ). row_in n id seen) named ∙ found)

  good : (id : ℤ) (row : Row) → row_in name id seen ≡ Some row → IsGoodRow table.columns id row.values
  good id row found = good_row x tables v look name table there can.edits can.stand id row found

  pub ids_of_rows : (ids : List ℤ) → AllByRecursion (λ i. has_row seen name i ≡ true) ids → map id_of (map (row_values seen name) ids) ≡ ids
  ids_of_rows [] all = refl
  ids_of_rows (i ∷ ids) all =
      let r = row_there (row_in name i seen) all.0 in
      ap₂ (λ j js. j ∷ js) (ap (λ o. id_of (values_in o)) r.1 ∙ (good i r.0 r.1).id_is) (ids_of_rows ids all.1)

  pub rows_are : (ids : List ℤ) → AllByRecursion (λ i. has_row seen name i ≡ true) ids → AllByRecursion (λ row. All HasRange row) (map (row_values seen name) ids) → AllByRecursion (IsRowOf table.columns) (map (row_values seen name) ids)
  rows_are [] all range = tt
  rows_are (i ∷ ids) all range =
      let r = row_there (row_in name i seen) all.0 in
      let same : r.0.values ≡ row_values seen name i = ap values_in (sym r.1) in (
        subst (IsRowOf table.columns) same (record {
          values_are = (good i r.0 r.1).values_are;
          range = subst (λ (vs : List Value). All HasRange vs) (sym same) range.0;
          fits = (fit_row i r.0 r.1).fits;
          arrays = (fit_row i r.0 r.1).arrays;
        }),
        rows_are ids all.1 range.1,
      )

  pub all_rows_are : (rows : List (List Value)) → rows ≡ rows_in seen name → AllByRecursion (λ row. All HasRange row) rows → AllByRecursion (IsRowOf table.columns) rows
  all_rows_are rows is range = subst (AllByRecursion (IsRowOf table.columns)) (sym is) (rows_are (ids_in name seen) (ids_there name seen) (subst (AllByRecursion (λ row. All HasRange row)) is range))

  pub rows_ascend : (rows : List (List Value)) → rows ≡ rows_in seen name → IsStrictlySortedBy int_cmp (map id_of rows)
  rows_ascend rows is = subst (IsStrictlySortedBy int_cmp) (sym (ap (map id_of) is ∙ ids_of_rows (ids_in name seen) (ids_there name seen))) (ids_ascend name seen)

  -- the table with these rows
  pub saved_is : (n : List ℕ) (cs : List Column) (rows : List (List Value)) → n ≡ name → cs ≡ table.columns → IsName table.name → IsTableColumns cs → rows ≡ rows_in seen name → AllByRecursion (λ row. All HasRange row) rows → length rows < 2 ^ 64 → IsTable (record { name = n; columns = cs; rows = rows })
  saved_is n cs rows is same good_name good_columns are range few = record {
    name = subst IsName (named ∙ sym is) good_name;
    columns = good_columns;
    rows = subst (λ (columns : List Column). AllByRecursion (IsRowOf columns) rows) (sym same) (all_rows_are rows are range);
    order = rows_ascend rows are;
    few_rows = few;
  }

abbrev table_with : List ℕ → List Column → Table
table_with name columns = record { name = name; columns = columns }

-- the table that a name finds

pub found_named : (name : List ℕ) (ts : List Table) (t : Table) → table_in name ts ≡ Some t → t.name ≡ name
found_named name [] t found = absurd (none-some t found)
found_named name (u ∷ us) t found = by (bytes_eq u.name name) refl found (found_named name us t)
  where
    by : (same : Bool) → bytes_eq u.name name ≡ same → cond same (Some u) (table_in name us) ≡ Some t → (table_in name us ≡ Some t → t.name ≡ name) → t.name ≡ name
    by true is here rest = ap (λ (o : Option Table). (unwrap_or o u).name) (sym here) ∙ (bytes_eq-Decides u.name name).0 is
    by false is here rest = rest here

pub found_holds : (P : Table → Type 0) (name : List ℕ) (ts : List Table) (t : Table) → AllByRecursion P ts → table_in name ts ≡ Some t → P t
found_holds P name [] t all found = absurd (none-some t found)
found_holds P name (u ∷ us) t all found = by (bytes_eq u.name name) found (found_holds P name us t all.1)
  where
    by : (same : Bool) → cond same (Some u) (table_in name us) ≡ Some t → (table_in name us ≡ Some t → P t) → P t
    by true here rest = subst P (ap (λ (o : Option Table). unwrap_or o u) here) all.0
    by false here rest = rest here

-- a copy of its name and its columns makes the same table
pub same_table : (t : Table) (name : List ℕ) (columns : List Column) → name ≡ t.name → columns ≡ t.columns → Some t ≡ Some (record { name = name; columns = columns })
same_table t name columns named same = ap₂ (λ (n : List ℕ) (cs : List Column). Some (table_with n cs)) (sym named) (sym same)
