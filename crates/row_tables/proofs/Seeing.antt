-- What terms of rows are in the words of stores: the row that a view has, and who holds one.
use Rattle.std.proofs.Common.{◌≡◌, ℕ, zero, suc, ℤ, Bool, true, false, cond, List, [], ◌∷◌, map, length, Option, Some, None, refl, ap, sym, subst, ◌∙◌}
use Rattle.std.specs.Prelude.{option_map}
use Rattle.lo_base.specs.declared.value.Cell.{Cell}
use Rattle.lo_model.specs.declared.viewer.Viewer.TheVariants.{Whole}
use Rattle.lo_model.specs.Edit.{Deed, Create, Write, Cut, Unlink, Put, Delete, Edit}
use Rattle.lo_model.specs.Row.{row_in}
use Rattle.lo_model.specs.Touch.{RowOf, busy_with, lower_of, meets, other_session, pages_of, touched}
use Rattle.lo_model.specs.View.{view}
use Rattle.xact_core.specs.declared.snapshot.Snapshot.{Snapshot}
use Rattle.xact_core.specs.Transactions.{Transactions}
use Rattle.row_versions.specs.Looks.{IsLook}
use Rattle.row_versions.specs.Search.{busy_at}
use Rattle.row_versions.specs.Stands.{lowest_other, standing}
use Rattle.row_versions.specs.Vacuum.{any_open}
use Rattle.row_versions.proofs.Lowest.{lowest_alike}
use Rattle.row_tables.specs.declared.tables.Tables.{Tables}
use Rattle.row_tables.specs.Calls.{IsTable}
use Rattle.row_tables.specs.Cells.{Told}
use Rattle.row_tables.specs.Keys.{key_cmp, row_key}
use Rattle.row_tables.specs.Laws.{row_told}
use Rattle.row_tables.specs.Standing.{StandFor, at_row, cells_at, edit_told, is_of_row, versions_of}
use Rattle.row_tables.proofs.EachOf.{or_false}
use Rattle.row_tables.proofs.ReadRows.{reads_rows}

module _ (x : Transactions) (tables : Tables) (ys : List (Edit Deed)) (stand : StandFor x tables ys) (name : List ℕ) (number : ℕ) (is : IsTable tables name number) (id : ℤ) where
  -- the row that a view has
  pub row_seen : (v : Snapshot) → IsLook x v → row_in name id (view v.clock v.viewer ys) ≡ option_map (row_told stand.kept.told) (cells_at x v tables (row_key number id))
  row_seen v look = subst (λ (t : List ℕ). row_in t id (view v.clock v.viewer ys) ≡ option_map (row_told stand.kept.told) (cells_at x v tables (row_key number id))) is.named ((reads_rows x v tables ys stand look).rows (row_key number id) is.table is.there)

  pub row_there : (v : Snapshot) → IsLook x v → (row : List Cell) → cells_at x v tables (row_key number id) ≡ Some row → row_in name id (view v.clock v.viewer ys) ≡ Some (row_told stand.kept.told row)
  row_there v look row found = row_seen v look ∙ ap (option_map (row_told stand.kept.told)) found

  pub row_missing : (v : Snapshot) → IsLook x v → cells_at x v tables (row_key number id) ≡ None → row_in name id (view v.clock v.viewer ys) ≡ None
  row_missing v look found = row_seen v look ∙ ap (option_map (row_told stand.kept.told)) found

  -- who holds it

  of_row : (d : Deed) → meets (RowOf name id) (touched d) ≡ is_of_row name id d
  of_row (Create o) = refl
  of_row (Write o at bytes) = by_count (length bytes)
    where
      by_count : (count : ℕ) → meets (RowOf name id) (pages_of o at count) ≡ false
      by_count zero = refl
      by_count (suc more) = refl
  of_row (Cut o size) = refl
  of_row (Unlink o) = refl
  of_row (Put u j values stored) = refl
  of_row (Delete u j) = refl

  pub busy_of_row : (s : ℕ) (es : List (Edit Deed)) → busy_with s (RowOf name id) es ≡ lowest_other s (at_row name id es)
  busy_of_row s [] = refl
  busy_of_row s (e ∷ es) = ap (λ (b : Bool). lower_of (cond b (other_session s e.owner) None) (busy_with s (RowOf name id) es)) (of_row e.deed) ∙ by_test (is_of_row name id e.deed) (busy_of_row s es)
    where
      none_lower : (o : Option ℕ) → lower_of None o ≡ o
      none_lower o = refl

      by_test : (b : Bool) → busy_with s (RowOf name id) es ≡ lowest_other s (at_row name id es) → lower_of (cond b (other_session s e.owner) None) (busy_with s (RowOf name id) es) ≡ lowest_other s (cond b (e ∷ at_row name id es) (at_row name id es))
      by_test true rest = ap (lower_of (other_session s e.owner)) rest
      by_test false rest = rest

  lowest_told : (s : ℕ) (told : ℕ → Told) (es : List (Edit (Option (List Cell)))) → lowest_other s (map (edit_told told name id) es) ≡ lowest_other s es
  lowest_told s told [] = refl
  lowest_told s told (e ∷ es) = ap (lower_of (other_session s e.owner)) (lowest_told s told es)

  pub busy_seen : (s : ℕ) → busy_with s (RowOf name id) ys ≡ busy_at key_cmp x s tables.rows (row_key number id)
  busy_seen s =
      busy_of_row s ys
      ∙ (ap (lowest_other s) (subst (λ (t : List ℕ). at_row t id ys ≡ map (edit_told stand.kept.told t id) (stand.kept.edits (row_key number id))) is.named (stand.reads.rows (row_key number id) is.table is.there))
      ∙ (lowest_told s stand.kept.told (stand.kept.edits (row_key number id))
      ∙ sym (lowest_alike s (standing x (versions_of tables (row_key number id))) (stand.kept.edits (row_key number id)) (λ t. sym (or_false (any_open (Whole t) (standing x (versions_of tables (row_key number id))))) ∙ (stand.kept.alike (row_key number id)).alike (Whole t)))))
