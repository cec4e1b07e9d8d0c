-- A whole row, cell by cell, and the values that its cells have.
use Rattle.std.proofs.Common.{◌≡◌, ◌<◌, ℕ, zero, suc, ◌+◌, false, List, [], ◌∷◌, ◌++◌, length, take, get_or, Option, Some, refl, ap, sym, subst, ◌∙◌, arith}
use Rattle.std.specs.Prelude.{slice_get}
use Rattle.std.specs.Option.{is_some, unwrap_or}
use Rattle.std.proofs.lemmas.Bool.{false≢true}
use Rattle.std.proofs.lemmas.List.{take_more, map_push}
use Rattle.lo_base.specs.declared.value.Cell.{Cell}
use Rattle.lo_base.specs.declared.value.Cell.TheVariants as cells
use Rattle.xact_core.specs.declared.snapshot.Snapshot.{Snapshot}
use Rattle.xact_core.specs.Transactions.{Transactions}
use Rattle.row_versions.specs.Stack.{Each}
use Rattle.toast_chunks.specs.declared.chunks.Chunks.{Chunks}
use Rattle.row_tables.specs.Cells.{Told, brought, value_told, values_told, whole_row}
use Rattle.row_tables.specs.Outside.{HasItsValue, HasOutside}
use Rattle.row_tables.specs.Values.{cell_of, cells_of}

pub each_at : {X : Type 0} (P : X → Type 0) (xs : List X) (i : ℕ) (x : X) → slice_get xs i ≡ Some x → Each P xs → P x
each_at P [] i x there each = absurd (false≢true (ap is_some there))
each_at P (y ∷ ys) zero x there each = subst P (ap (λ o. unwrap_or o y) there) each.0
each_at P (y ∷ ys) (suc i) x there each = each_at P ys i x there each.1

pub each_or : {X : Type 0} (P : X → Type 0) (xs : List X) (i : ℕ) (d : X) → i < length xs → Each P xs → P (get_or xs i d)
each_or P [] i d within each = absurd (omega arith)
each_or P (y ∷ ys) zero d within each = each.0
each_or P (y ∷ ys) (suc i) d within each = each_or P ys i d (omega arith) each.1

pub whole_more : (told : ℕ → Told) (row : List Cell) (i : ℕ) (d cell : Cell) (whole more : List Cell) → i < length row → whole ≡ whole_row told (take i row) → more ≡ whole ++ cell ∷ [] → cell ≡ brought told false (get_or row i d) → more ≡ whole_row told (take (i + 1) row)
whole_more told row i d cell whole more within so_far pushed is =
    pushed ∙ (ap (λ (l : List Cell). l ++ cell ∷ []) so_far
    ∙ (ap (λ (c : Cell). whole_row told (take i row) ++ c ∷ []) is
    ∙ (sym (map_push (brought told false) (take i row) (get_or row i d)) ∙ ap (whole_row told) (sym (take_more row i d within)))))

-- with all its values a row has the cells of its values

whole_cell : (told : ℕ → Told) (x : Transactions) (v : Snapshot) (chunks : Chunks) (cell : Cell) → HasItsValue told x v chunks cell → brought told false cell ≡ cell_of (value_told told cell)
whole_cell told x v chunks cells.Null has = refl
whole_cell told x v chunks (cells.Int n) has = refl
whole_cell told x v chunks (cells.Oid n) has = refl
whole_cell told x v chunks (cells.Inline bytes) has = refl
whole_cell told x v chunks (cells.Text bytes) has = absurd has
whole_cell told x v chunks (cells.Outside l n) has = refl

pub whole_cells : (told : ℕ → Told) (x : Transactions) (v : Snapshot) (chunks : Chunks) (row : List Cell) → HasOutside told x v chunks row → whole_row told row ≡ cells_of (values_told told row)
whole_cells told x v chunks [] has = refl
whole_cells told x v chunks (c ∷ cs) has = λ i. whole_cell told x v chunks c has.0 i ∷ whole_cells told x v chunks cs has.1 i

-- the value at a place is that of the cell there

pub value_there : (told : ℕ → Told) (row : List Cell) (i : ℕ) (cell : Cell) → slice_get row i ≡ Some cell → slice_get (values_told told row) i ≡ Some (value_told told cell)
value_there told [] i cell there = absurd (false≢true (ap is_some there))
value_there told (c ∷ cs) zero cell there = ap (λ (o : Option Cell). Some (value_told told (unwrap_or o c))) there
value_there told (c ∷ cs) (suc i) cell there = value_there told cs i cell there
