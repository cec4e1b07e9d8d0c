-- The terms of rows by what the stores answer: where the table is there, whether the row is, and who holds it.
use Rattle.std.proofs.Common.{◌≡◌, ◌≤◌, ℕ, ℤ, false, List, Option, Some, None, refl, ap, ◌∙◌, arith}
use Rattle.std.specs.Prelude.{nat_lt}
use Rattle.std.proofs.lemmas.Bool.Decides.{nat_tests}
use Rattle.lo_base.specs.declared.column.Column.{Column}
use Rattle.lo_base.specs.declared.refusal.Cause.TheVariants.{NoRow, RowExists}
use Rattle.lo_base.specs.declared.refusal.Refusal.{Refusal}
use Rattle.lo_base.specs.declared.value.Cell.{Cell}
use Rattle.lo_model.specs.Edit.{Deed, Edit}
use Rattle.xact_core.specs.declared.snapshot.Snapshot.{Snapshot}
use Rattle.xact_core.specs.Transactions.{Transactions}
use Rattle.row_versions.specs.Looks.{IsLook}
use Rattle.row_versions.specs.Search.{busy_at}
use Rattle.row_tables.specs.declared.tables.Tables.{Tables}
use Rattle.row_tables.specs.Calls.{IsHeld, IsTable}
use Rattle.row_tables.specs.Catalog.{columns_in}
use Rattle.row_tables.specs.Cells.{stored_told, values_told}
use Rattle.row_tables.specs.Keys.{key_cmp, row_key}
use Rattle.row_tables.specs.Row.{Here}
use Rattle.row_tables.specs.RowRules.{columns_here, row_here, stored_in, values_in}
use Rattle.row_tables.specs.Standing.{StandFor, cells_at}
use Rattle.row_tables.specs.Terms.{busy, held_by_session, no_row, no_table, refusal, row_exists, row_limit, row_too_big, rounded_length}
use Rattle.row_tables.specs.World.{here_in, world}
use Rattle.row_tables.proofs.Seeing.{busy_seen, row_missing, row_there}

module _ (x : Transactions) (tables : Tables) (s : ℕ) (v : Snapshot) (look : IsLook x v) (name : List ℕ) (number : ℕ) (is : IsTable tables name number) (ys : List (Edit Deed)) where
  abbrev pub here : Here
  here = here_in (world x tables s) v ys

  pub table_known : no_table here name ≡ None
  table_known = rw is.found refl

  pub columns_are : columns_here here name ≡ is.table.columns
  columns_are = ap columns_in is.found

  module _ (id : ℤ) (stand : StandFor x tables ys) where
    pub row_found : (row : List Cell) → cells_at x v tables (row_key number id) ≡ Some row → no_row here name id ≡ None
    row_found row found = rw (row_there x tables ys stand name number is id v look row found) refl

    pub row_absent : cells_at x v tables (row_key number id) ≡ None → no_row here name id ≡ Some (refusal NoRow id)
    row_absent found = rw (row_missing x tables ys stand name number is id v look found) refl

    pub row_taken : (row : List Cell) → cells_at x v tables (row_key number id) ≡ Some row → row_exists here name id ≡ Some (refusal RowExists id)
    row_taken row found = rw (row_there x tables ys stand name number is id v look row found) refl

    pub row_new : cells_at x v tables (row_key number id) ≡ None → row_exists here name id ≡ None
    row_new found = rw (row_missing x tables ys stand name number is id v look found) refl

    pub values_are : (row : List Cell) → cells_at x v tables (row_key number id) ≡ Some row → values_in (row_here here name id) ≡ values_told stand.kept.told row
    values_are row found = ap values_in (row_there x tables ys stand name number is id v look row found)

    pub stored_are : (row : List Cell) → cells_at x v tables (row_key number id) ≡ Some row → stored_in (row_here here name id) ≡ stored_told stand.kept.told row
    stored_are row found = ap stored_in (row_there x tables ys stand name number is id v look row found)

    pub row_free : busy_at key_cmp x s tables.rows (row_key number id) ≡ None → busy here name id ≡ None
    row_free free = ap held_by_session (busy_seen x tables ys stand name number is id s ∙ free)

    pub row_held : (r : Refusal) → IsHeld x s tables (row_key number id) r → busy here name id ≡ Some r
    row_held r held = ap held_by_session (busy_seen x tables ys stand name number is id s) ∙ held

-- a row within the limit
pub short_enough : (columns : List Column) (lengths : List (Option ℕ)) → rounded_length columns lengths ≤ 8160 → row_too_big columns lengths ≡ None
short_enough columns lengths fits = rw below refl
  where
    below : nat_lt row_limit (rounded_length columns lengths) ≡ false
    below = grind (arith, nat_tests, fits)
