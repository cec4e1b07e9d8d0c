-- The last of the tables that were read, and what the numbers of values outside come to behind lists of cells and of rows.
use Rattle.std.proofs.Common.{◌≡◌, ℕ, suc, ◌+◌, ◌-◌, ◌≤◌, List, [], ◌∷◌, ◌++◌, length, get_or, Some, refl, sym, ap, ◌∙◌, arith}
use Rattle.std.specs.Bool.{◌==◌}
use Rattle.std.specs.Ordering.{ordering_index}
use Rattle.std.specs.declared.cmp.Ordering.{Ordering}
use Rattle.std.specs.declared.cmp.Ordering.TheVariants as orders
use Rattle.lo_base.specs.declared.value.Cell.{Cell}
use Rattle.lo_image.specs.declared.place.TableCells.{TableCells}
use Rattle.lo_image.specs.Reading.{is_less, after_cell, after_cells, after_rows, after_table}
use Rattle.lo_image.specs.Tables.{place_of, last_name}
use Rattle.std.proofs.lemmas.List.{length-append}

pub last_is : (ts : List TableCells) (t : TableCells) → 1 ≤ length ts → t ≡ get_or ts (length ts - 1) t → last_name ts ≡ Some t.name
last_is [] t some e = absurd (omega (arith, some))
last_is (a ∷ []) t some e = ap (λ (x : TableCells). Some x.name) (sym e)
last_is (a ∷ b ∷ ts) t some e =
    let one : suc (suc (length ts)) - 1 ≡ suc (length ts) = omega arith in
    let other : length ts ≡ suc (length ts) - 1 = omega arith in
    last_is (b ∷ ts) t (omega arith) (e ∙ ap (λ (n : ℕ). get_or (a ∷ b ∷ ts) n t) one ∙ ap (λ (n : ℕ). get_or (b ∷ ts) n t) other)

pub last_pushed : (ts : List TableCells) (t : TableCells) → last_name (ts ++ t ∷ []) ≡ Some t.name
last_pushed [] t = refl
last_pushed (a ∷ []) t = refl
last_pushed (a ∷ b ∷ ts) t = last_pushed (b ∷ ts) t

pub less_by_index : (o : Ordering) → (ordering_index o == 0) ≡ is_less o
less_by_index orders.Less = refl
less_by_index orders.Equal = refl
less_by_index orders.Greater = refl

pub after_cells-pushed : (value : ℕ) (cs : List Cell) (c : Cell) → after_cells value (cs ++ c ∷ []) ≡ after_cell (after_cells value cs) c
after_cells-pushed value [] c = refl
after_cells-pushed value (d ∷ cs) c = after_cells-pushed (after_cell value d) cs c

pub after_rows-pushed : (value : ℕ) (rows : List (List Cell)) (row : List Cell) → after_rows value (rows ++ row ∷ []) ≡ after_cells (after_rows value rows) row
after_rows-pushed value [] row = refl
after_rows-pushed value (first ∷ rows) row = after_rows-pushed (after_cells value first) rows row

-- the place behind one table more
pub next_place : (ts new : List TableCells) (t : TableCells) (value next : ℕ) → new ≡ ts ++ t ∷ [] → next ≡ after_rows value t.rows → after_table (place_of (last_name ts) (length ts + 1) value) t ≡ place_of (last_name new) (length new + 1) next
next_place ts new t value next added counted =
    let len : length ts + 1 + 1 ≡ length (ts ++ t ∷ []) + 1 = omega (arith, length-append ts (t ∷ [])) in
    rw (added, counted, last_pushed ts t) (ap (λ (n : ℕ). place_of (Some t.name) n (after_rows value t.rows)) len)
