-- What a change of one row is in its numbers, and that what was told of other values stays.
use Rattle.std.proofs.Common.{◌≡◌, ℕ, ◌<◌, ◌≤◌, Bool, true, false, cond, List, [], ◌∷◌, length, Option, Some, None, refl, ap, sym, subst, ◌∙◌, arith}
use Rattle.std.specs.Prelude.{◌||◌, ◌==◌, slice_get}
use Rattle.std.proofs.lemmas.Bool.{false≢true}
use Rattle.std.proofs.lemmas.Bool.Decides.{nat_tests}
use Rattle.lo_base.specs.declared.column.Column.{Column}
use Rattle.lo_base.specs.declared.value.Cell.{Cell}
use Rattle.lo_base.specs.declared.value.Cell.TheVariants as cells
use Rattle.lo_base.specs.declared.value.Value.{Value}
use Rattle.lo_base.specs.declared.value.Value.TheVariants as values
use Rattle.row_versions.specs.Stack.{Each}
use Rattle.toast_chunks.specs.Values.{next_number}
use Rattle.toast_plan.specs.Row.{FitColumns}
use Rattle.row_tables.specs.declared.row_key.RowKey.{RowKey}
use Rattle.row_tables.specs.declared.tables.Tables.{Tables}
use Rattle.row_tables.specs.Catalog.{columns_in}
use Rattle.row_tables.specs.Cells.{AreCells, IsCell, Moved, Told, has_moved, has_number, is_among, moved_at, stored_told, told_with, value_told, values_told}
use Rattle.row_tables.specs.Standing.{HasCells, gives}
use Rattle.row_tables.specs.Values.{HasId}

-- whether a row that is there has a value of a number outside
abbrev pub has : (number : ℕ) → Option (List Cell) → Bool
has n None = false
has n (Some row) = has_number row n

pub gives_had : (told : ℕ → Told) (n clock : ℕ) (content : Option (List Cell)) → has n content ≡ true → gives told n clock content ≡ (told n).bytes
gives_had told n clock None is = absurd (false≢true is)
gives_had told n clock (Some row) is = rw is refl

pub gives_none : (told : ℕ → Told) (n clock : ℕ) (content : Option (List Cell)) → has n content ≡ false → gives told n clock content ≡ []
gives_none told n clock None is = refl
gives_none told n clock (Some row) is = rw is refl

-- A change of a row from what was found to a new content: the values that moved out have new numbers, and the new content has
-- them; of the others it has those that were found, but for those that are gone.
pub record IsChange (clock : ℕ) (key : RowKey) (told : ℕ → Told) (next : ℕ) (moved : List Moved) (gone : List ℕ) (found content : Option (List Cell)) : Type 0 where
  pub new : Each (λ (m : Moved). next ≤ m.number) moved
  pub said : Each (λ (m : Moved). told_with clock key moved told m.number ≡ record { bytes = m.bytes; moved = clock; home = key }) moved
  pub here : (n : ℕ) → has_moved moved n ≡ true → has n content ≡ true
  pub had : (n : ℕ) → is_among gone n ≡ true → has n found ≡ true
  pub lost : (n : ℕ) → is_among gone n ≡ true → has n content ≡ false
  pub others : (n : ℕ) → has_moved moved n ≡ false → is_among gone n ≡ false → has n content ≡ has n found

-- what is told of a number that did not move

pub told_spared : (clock : ℕ) (key : RowKey) (moved : List Moved) (told : ℕ → Told) (n : ℕ) → has_moved moved n ≡ false → told_with clock key moved told n ≡ told n
told_spared clock key [] told n is = refl
told_spared clock key (m ∷ ms) told n is = by_first (m.number == n) is (λ rest. told_spared clock key ms told n rest)
  where
    by_first : (b : Bool) → (b || has_moved ms n) ≡ false → (has_moved ms n ≡ false → told_with clock key ms told n ≡ told n) → cond b (record { bytes = m.bytes; moved = clock; home = key }) (told_with clock key ms told n) ≡ told n
    by_first true bad rest = absurd (false≢true (sym bad))
    by_first false none rest = rest none

pub moved_below : (next n : ℕ) (moved : List Moved) → Each (λ (m : Moved). next ≤ m.number) moved → n < next → has_moved moved n ≡ false
moved_below next n [] new below = refl
moved_below next n (m ∷ ms) new below = rw (apart, moved_below next n ms new.1 below) refl
  where
    apart : (m.number == n) ≡ false
    apart = grind (arith, nat_tests, new.0, below)

-- one of those that moved

pub by_moved : (P : Moved → Type 0) (Q : Type 0) (n : ℕ) (moved : List Moved) → Each P moved → has_moved moved n ≡ true → ((m : Moved) → P m → m.number ≡ n → Q) → Q
by_moved P Q n [] each is use_it = absurd (false≢true is)
by_moved P Q n (m ∷ ms) each is use_it = by_first (m.number == n) refl is (λ rest. by_moved P Q n ms each.1 rest use_it)
  where
    by_first : (b : Bool) → (m.number == n) ≡ b → (b || has_moved ms n) ≡ true → (has_moved ms n ≡ true → Q) → Q
    by_first true here any rest = use_it m each.0 (grind (arith, nat_tests, here))
    by_first false here any rest = rest any

pub each_both : {X : Type 0} (P Q : X → Type 0) (xs : List X) → Each P xs → Each Q xs → Each (λ (x : X). P x × Q x) xs
each_both P Q [] ps qs = tt
each_both P Q (x ∷ xs) ps qs = ((ps.0, qs.0), each_both P Q xs ps.1 qs.1)

-- a number among a row's is one of a cell's, which is below the next number and of the row

pub record IsOwn (told : ℕ → Told) (key : RowKey) (next n : ℕ) : Type 0 where
  pub below : n < next
  pub home : (told n).home ≡ key

pub own_number : (told : ℕ → Told) (key : RowKey) (next : ℕ) (row : List Cell) (n : ℕ) → Each (IsCell told key next) row → has_number row n ≡ true → IsOwn told key next n
own_number told key next [] n each is = absurd (false≢true is)
own_number told key next (cell ∷ row) n each is = by_cell cell each.0 is (λ rest. own_number told key next row n each.1 rest)
  where
    by_number : (m : ℕ) (b : Bool) → (m == n) ≡ b → IsOwn told key next m → (b || has_number row n) ≡ true → (has_number row n ≡ true → IsOwn told key next n) → IsOwn told key next n
    by_number m true here own any rest = subst (λ (k : ℕ). IsOwn told key next k) (grind (arith, nat_tests, here)) own
    by_number m false here own any rest = rest any

    by_cell : (c : Cell) → IsCell told key next c → has_number (c ∷ row) n ≡ true → (has_number row n ≡ true → IsOwn told key next n) → IsOwn told key next n
    by_cell cells.Null good any rest = rest any
    by_cell (cells.Int z) good any rest = rest any
    by_cell (cells.Oid o) good any rest = rest any
    by_cell (cells.Inline bytes) good any rest = rest any
    by_cell (cells.Text bytes) good any rest = absurd good
    by_cell (cells.Outside l m) good any rest = by_number m (m == n) refl (record { below = good.2; home = good.1 }) any rest

pub own_has : (told : ℕ → Told) (key : RowKey) (tables : Tables) (content : Option (List Cell)) (n : ℕ) → HasCells told key tables content → has n content ≡ true → IsOwn told key (next_number tables.chunks) n
own_has told key tables None n cells is = absurd (false≢true is)
own_has told key tables (Some row) n cells is = own_number told key (next_number tables.chunks) row n cells.each is

-- Two tellings that say the same of all numbers below the next one say the same of cells.

module _ (told tell : ℕ → Told) (key : RowKey) (next : ℕ) (alike : (n : ℕ) → n < next → tell n ≡ told n) where
  value_stays : (cell : Cell) → IsCell told key next cell → value_told tell cell ≡ value_told told cell
  value_stays cells.Null good = refl
  value_stays (cells.Int z) good = refl
  value_stays (cells.Oid o) good = refl
  value_stays (cells.Inline bytes) good = refl
  value_stays (cells.Text bytes) good = refl
  value_stays (cells.Outside l n) good = ap (λ (t : Told). values.Bytes t.bytes) (alike n good.2)

  moved_stays : (cell : Cell) → IsCell told key next cell → moved_at tell cell ≡ moved_at told cell
  moved_stays cells.Null good = refl
  moved_stays (cells.Int z) good = refl
  moved_stays (cells.Oid o) good = refl
  moved_stays (cells.Inline bytes) good = refl
  moved_stays (cells.Text bytes) good = refl
  moved_stays (cells.Outside l n) good = ap (λ (t : Told). Some t.moved) (alike n good.2)

  pub values_stay : (row : List Cell) → Each (IsCell told key next) row → values_told tell row ≡ values_told told row
  values_stay [] each = refl
  values_stay (c ∷ cs) each = rw (value_stays c each.0, values_stay cs each.1) refl

  pub stored_stay : (row : List Cell) → Each (IsCell told key next) row → stored_told tell row ≡ stored_told told row
  stored_stay [] each = refl
  stored_stay (c ∷ cs) each = rw (moved_stays c each.0, stored_stay cs each.1) refl

  cell_stays : (later : ℕ) → next ≤ later → (cell : Cell) → IsCell told key next cell → IsCell tell key later cell
  cell_stays later more cells.Null good = tt
  cell_stays later more (cells.Int z) good = tt
  cell_stays later more (cells.Oid o) good = tt
  cell_stays later more (cells.Inline bytes) good = tt
  cell_stays later more (cells.Text bytes) good = good
  cell_stays later more (cells.Outside l n) good = (good.0 ∙ ap (λ (t : Told). length t.bytes) (sym (alike n good.2)), ap (λ (t : Told). t.home) (alike n good.2) ∙ good.1, omega (arith, good.2, more))

  pub each_stays : (later : ℕ) → next ≤ later → (row : List Cell) → Each (IsCell told key next) row → Each (IsCell tell key later) row
  each_stays later more [] each = tt
  each_stays later more (c ∷ cs) each = (cell_stays later more c each.0, each_stays later more cs each.1)

  pub cells_stay : (later : ℕ) → next ≤ later → (columns : List Column) (row : List Cell) → AreCells told key next columns row → AreCells tell key later columns row
  cells_stay later more columns row are = record {
    each = each_stays later more row are.each;
    once = are.once;
    fit = subst (λ (vs : List Value). FitColumns columns vs) (sym (values_stay row are.each)) are.fit;
    id = subst (λ (vs : List Value). HasId key.id vs) (sym (values_stay row are.each)) are.id;
  }

pub content_stays : (told tell : ℕ → Told) (key : RowKey) (old new : Tables) → new.catalog ≡ old.catalog → next_number old.chunks ≤ next_number new.chunks → ((n : ℕ) → n < next_number old.chunks → tell n ≡ told n) → (content : Option (List Cell)) → HasCells told key old content → HasCells tell key new content
content_stays told tell key old new same more alike None cells = tt
content_stays told tell key old new same more alike (Some row) cells = subst (λ tables. AreCells tell key (next_number new.chunks) (columns_in (slice_get tables key.table)) row) (sym same) (cells_stay told tell key (next_number old.chunks) alike (next_number new.chunks) more (columns_in (slice_get old.catalog key.table)) row cells)
