-- What a kept view reads of tables: each row is what its edits fold to, and all its values outside are there.
use Rattle.std.proofs.Common.{◌≡◌, ℕ, Bool, true, false, List, [], ◌∷◌, ◌++◌, Option, Some, None, refl, ap, sym, subst, ◌∙◌, arith}
use Rattle.std.specs.Prelude.{◌||◌, ◌==◌, option_map}
use Rattle.std.specs.List.{list_any}
use Rattle.std.proofs.lemmas.Bool.{false≢true}
use Rattle.std.proofs.lemmas.Bool.Decides.{nat_tests}
use Rattle.lo_base.specs.declared.value.Cell.{Cell}
use Rattle.lo_base.specs.declared.value.Cell.TheVariants as cells
use Rattle.lo_model.specs.Edit.{Deed, Edit}
use Rattle.lo_model.specs.Row.{row_in}
use Rattle.lo_model.specs.View.{view}
use Rattle.xact_core.specs.declared.snapshot.Snapshot.{Snapshot}
use Rattle.xact_core.specs.Transactions.{Transactions}
use Rattle.row_versions.specs.Found.{given}
use Rattle.row_versions.specs.Looks.{IsLook}
use Rattle.row_versions.specs.Stack.{Each}
use Rattle.row_versions.specs.Stands.{after_all, replaces}
use Rattle.toast_chunks.specs.Standing.{left_by}
use Rattle.toast_chunks.specs.Values.{HasValue}
use Rattle.toast_chunks.proofs.Standing.{stand_reads}
use Rattle.row_tables.specs.declared.row_key.RowKey.{RowKey}
use Rattle.row_tables.specs.declared.tables.Tables.{Tables}
use Rattle.row_tables.specs.Cells.{Told, IsCell, has_number, is_among, numbers_in, number_of}
use Rattle.row_tables.specs.Laws.{HasOutsideIfThere, ReadsRows, row_told}
use Rattle.row_tables.specs.Outside.{HasItsValue, HasOutside}
use Rattle.row_tables.specs.Standing.{HasCells, Kept, StandFor, cells_at, gives}
use Rattle.row_tables.proofs.RowEdits.{each_view, left_has, row_in_own, row_of_told, view_of_row, view_told}

-- the bytes of a value after edits of its row are those that the row then left gives

left_gives : (told : ℕ → Told) (n clock : ℕ) (old : Option (List Cell)) (es : List (Edit (Option (List Cell)))) → after_all (replaces (gives told n)) (gives told n clock old) es ≡ gives told n clock (after_all (replaces given) old es)
left_gives told n clock old [] = refl
left_gives told n clock old (e ∷ es) = ap (λ (bytes : List ℕ). after_all (replaces (gives told n)) bytes es) (any_clock e.deed) ∙ left_gives told n clock e.deed es
  where
    any_clock : (content : Option (List Cell)) → gives told n e.clock content ≡ gives told n clock content
    any_clock None = refl
    any_clock (Some row) = refl

pub left_of_value : (told : ℕ → Told) (n clock : ℕ) (es : List (Edit (Option (List Cell)))) → left_by (gives told n) es ≡ gives told n clock (after_all (replaces given) None es)
left_of_value told n clock es = left_gives told n clock None es

-- a row has the numbers of its cells

pub any_more : {X : Type 0} (p : X → Bool) (xs ys : List X) → list_any p xs ≡ true → list_any p (ys ++ xs) ≡ true
any_more p xs [] is = is
any_more p xs (y ∷ ys) is = by_first (p y) (any_more p xs ys is)
  where
    by_first : (b : Bool) → list_any p (ys ++ xs) ≡ true → (b || list_any p (ys ++ xs)) ≡ true
    by_first true rest = refl
    by_first false rest = rest

pub any_before : {X : Type 0} (p : X → Bool) (xs ys : List X) → list_any p xs ≡ true → list_any p (xs ++ ys) ≡ true
any_before p [] ys is = absurd (false≢true is)
any_before p (x ∷ xs) ys is = by_first (p x) is (λ more. any_before p xs ys more)
  where
    by_first : (b : Bool) → (b || list_any p xs) ≡ true → (list_any p xs ≡ true → list_any p (xs ++ ys) ≡ true) → (b || list_any p (xs ++ ys)) ≡ true
    by_first true first rest = refl
    by_first false first rest = rest first

module _ (x : Transactions) (v : Snapshot) (tables : Tables) (kept : Kept x tables) (look : IsLook x v) where
  -- what a view finds is what the last edit that it sees leaves
  pub finds_left : (key : RowKey) → cells_at x v tables key ≡ after_all (replaces given) None (view v.clock v.viewer (kept.edits key))
  finds_left key = (kept.rows key).same.same v look

  pub has_cells : (key : RowKey) → HasCells kept.told key tables (cells_at x v tables key)
  has_cells key = subst (λ (content : Option (List Cell)). HasCells kept.told key tables content) (sym (finds_left key)) (left_has (HasCells kept.told key tables) None (view v.clock v.viewer (kept.edits key)) tt (each_view (λ (e : Edit (Option (List Cell))). HasCells kept.told key tables e.deed) v.clock v.viewer (kept.edits key) (kept.cells key)))

  -- the view has of each value what its row gives
  has_given : (n : ℕ) → HasValue x v tables.chunks n (gives kept.told n 0 (cells_at x v tables (kept.told n).home))
  has_given n = subst (λ (bytes : List ℕ). HasValue x v tables.chunks n bytes) (left_of_value kept.told n 0 (view v.clock v.viewer (kept.edits (kept.told n).home)) ∙ ap (gives kept.told n 0) (sym (finds_left (kept.told n).home))) (stand_reads (gives kept.told n) x tables.chunks n (kept.edits (kept.told n).home) v (kept.values n) look)

  module _ (key : RowKey) (row : List Cell) (found : cells_at x v tables key ≡ Some row) where
    has_named : (n : ℕ) → (kept.told n).home ≡ key → has_number row n ≡ true → HasValue x v tables.chunks n (kept.told n).bytes
    has_named n home has = subst (λ (bytes : List ℕ). HasValue x v tables.chunks n bytes) (ap (λ (k : RowKey). gives kept.told n 0 (cells_at x v tables k)) home ∙ (ap (gives kept.told n 0) found ∙ rw has refl)) (has_given n)

    has_each : (next : ℕ) (cell : Cell) → IsCell kept.told key next cell → ((n : ℕ) → is_among (number_of cell) n ≡ true → has_number row n ≡ true) → HasItsValue kept.told x v tables.chunks cell
    has_each next cells.Null is here = tt
    has_each next (cells.Int z) is here = tt
    has_each next (cells.Oid o) is here = tt
    has_each next (cells.Inline bytes) is here = tt
    has_each next (cells.Text bytes) is here = is
    has_each next (cells.Outside l n) is here = (is.0, has_named n is.1 (here n (grind (arith, nat_tests))))

    has_all : (next : ℕ) (back : List Cell) → Each (IsCell kept.told key next) back → ((n : ℕ) → is_among (numbers_in back) n ≡ true → has_number row n ≡ true) → HasOutside kept.told x v tables.chunks back
    has_all next [] each here = tt
    has_all next (cell ∷ back) each here = (has_each next cell each.0 (λ n is. here n (any_front n is)), has_all next back each.1 (λ n is. here n (any_more (λ m. m == n) (numbers_in back) (number_of cell) is)))
      where
        any_front : (n : ℕ) → is_among (number_of cell) n ≡ true → is_among (number_of cell ++ numbers_in back) n ≡ true
        any_front n is = any_before (λ m. m == n) (number_of cell) (numbers_in back) is

  has_outside : (key : RowKey) (content : Option (List Cell)) → cells_at x v tables key ≡ content → HasCells kept.told key tables content → HasOutsideIfThere kept.told x v tables.chunks content
  has_outside key None found has = tt
  has_outside key (Some row) found has = has_all key row found _ row has.each (λ n is. is)

  pub has_all_outside : (key : RowKey) → HasOutsideIfThere kept.told x v tables.chunks (cells_at x v tables key)
  has_all_outside key = has_outside key (cells_at x v tables key) refl (has_cells key)

pub reads_rows : (x : Transactions) (v : Snapshot) (tables : Tables) (ys : List (Edit Deed)) (stand : StandFor x tables ys) → IsLook x v → ReadsRows x v tables stand.kept.told (view v.clock v.viewer ys)
reads_rows x v tables ys stand look = record {
  rows = λ key table there.
      row_in_own table.name key.id (view v.clock v.viewer ys)
      ∙ (ap (row_in table.name key.id) (view_of_row table.name key.id v.clock v.viewer ys ∙ (ap (view v.clock v.viewer) (stand.reads.rows key table there) ∙ view_told stand.kept.told table.name key.id v.clock v.viewer (stand.kept.edits key)))
      ∙ (row_of_told stand.kept.told table.name key.id (view v.clock v.viewer (stand.kept.edits key))
      ∙ ap (option_map (row_told stand.kept.told)) (sym (finds_left x v tables stand.kept look key))));
  outside = has_all_outside x v tables stand.kept look;
}
