-- The edits of one row among all edits: what a view has of them, and the row that they fold to.
use Rattle.std.proofs.Common.{◌≡◌, ℕ, ℤ, Bool, true, false, cond, List, [], ◌∷◌, map, Option, Some, None, refl, ap, ◌∙◌}
use Rattle.std.specs.Prelude.{filter, option_map}
use Rattle.std.proofs.lemmas.Bool.Decides.{Decides-int_eq}
use Rattle.std.proofs.lemmas.Slice.Eq.{bytes_eq-Decides}
use Rattle.lo_base.specs.declared.value.Cell.{Cell}
use Rattle.lo_model.specs.declared.viewer.Viewer.{Viewer}
use Rattle.lo_model.specs.Edit.{Deed, Create, Write, Cut, Unlink, Put, Delete, Edit, deeds}
use Rattle.lo_model.specs.Row.{Row, is_row, row_after, row_after_all, row_in}
use Rattle.lo_model.specs.View.{sees, sees_edit, view}
use Rattle.row_versions.specs.Found.{given}
use Rattle.row_versions.specs.Stack.{Each}
use Rattle.row_versions.specs.Stands.{after_all, replaces}
use Rattle.row_tables.specs.Cells.{Told}
use Rattle.row_tables.specs.Laws.{row_told}
use Rattle.row_tables.specs.Standing.{at_row, deed_told, edit_told, is_of_row}

-- a row is itself
pub is_row_itself : (t : List ℕ) (i : ℤ) → is_row t i t i ≡ true
is_row_itself t i = rw ((bytes_eq-Decides t t).1 refl) ((Decides-int_eq i i).1 refl)

-- An edit that is not of a row leaves it.

row_spared : (t : List ℕ) (i : ℤ) (old : Option Row) (d : Deed) → is_of_row t i d ≡ false → row_after t i old d ≡ old
row_spared t i old (Create o) apart = refl
row_spared t i old (Write o at bytes) apart = refl
row_spared t i old (Cut o size) apart = refl
row_spared t i old (Unlink o) apart = refl
row_spared t i old (Put u j values stored) apart = rw apart refl
row_spared t i old (Delete u j) apart = rw apart refl

row_of_own : (t : List ℕ) (i : ℤ) (old : Option Row) (es : List (Edit Deed)) → row_after_all t i old (deeds es) ≡ row_after_all t i old (deeds (at_row t i es))
row_of_own t i old [] = refl
row_of_own t i old (e ∷ es) = by_row (is_of_row t i e.deed) refl (row_of_own t i (row_after t i old e.deed) es) (row_of_own t i old es)
  where
    by_row : (b : Bool) → is_of_row t i e.deed ≡ b → row_after_all t i (row_after t i old e.deed) (deeds es) ≡ row_after_all t i (row_after t i old e.deed) (deeds (at_row t i es)) → row_after_all t i old (deeds es) ≡ row_after_all t i old (deeds (at_row t i es)) → row_after_all t i (row_after t i old e.deed) (deeds es) ≡ row_after_all t i old (deeds (cond b (e ∷ at_row t i es) (at_row t i es)))
    by_row true is here spared = here
    by_row false is here spared = ap (λ (row : Option Row). row_after_all t i row (deeds es)) (row_spared t i old e.deed is) ∙ spared

pub row_in_own : (t : List ℕ) (i : ℤ) (es : List (Edit Deed)) → row_in t i es ≡ row_in t i (at_row t i es)
row_in_own t i es = row_of_own t i None es

-- two filters may change places
swapped : {X : Type 0} (p q : X → Bool) (xs : List X) → filter p (filter q xs) ≡ filter q (filter p xs)
swapped p q [] = refl
swapped {X} p q (x ∷ xs) = by_tests (p x) (q x) refl refl (swapped p q xs)
  where
    by_tests : (a b : Bool) → p x ≡ a → q x ≡ b → filter p (filter q xs) ≡ filter q (filter p xs) → filter p (cond b (x ∷ filter q xs) (filter q xs)) ≡ filter q (cond a (x ∷ filter p xs) (filter p xs))
    by_tests true true pis qis rest = rw (pis, qis) (ap (λ (ys : List X). x ∷ ys) rest)
    by_tests true false pis qis rest = rw qis rest
    by_tests false true pis qis rest = rw pis rest
    by_tests false false pis qis rest = rest

pub view_of_row : (t : List ℕ) (i : ℤ) (clock : ℕ) (viewer : Viewer) (ys : List (Edit Deed)) → at_row t i (view clock viewer ys) ≡ view clock viewer (at_row t i ys)
view_of_row t i clock viewer ys = swapped (λ (e : Edit Deed). is_of_row t i e.deed) (sees_edit clock viewer) ys

module _ (told : ℕ → Told) (t : List ℕ) (i : ℤ) where
  -- a view of edits of cells, told as edits of rows
  pub view_told : (clock : ℕ) (viewer : Viewer) (es : List (Edit (Option (List Cell)))) → view clock viewer (map (edit_told told t i) es) ≡ map (edit_told told t i) (view clock viewer es)
  view_told clock viewer [] = refl
  view_told clock viewer (e ∷ es) = by_seen (sees clock viewer e.clock e.owner) (view_told clock viewer es)
    where
      by_seen : (b : Bool) → view clock viewer (map (edit_told told t i) es) ≡ map (edit_told told t i) (view clock viewer es) → cond b (edit_told told t i e ∷ view clock viewer (map (edit_told told t i) es)) (view clock viewer (map (edit_told told t i) es)) ≡ map (edit_told told t i) (cond b (e ∷ view clock viewer es) (view clock viewer es))
      by_seen true rest = ap (λ (fs : List (Edit Deed)). edit_told told t i e ∷ fs) rest
      by_seen false rest = rest

  -- the row that such edits fold to

  one_told : (old : Option (List Cell)) (content : Option (List Cell)) → row_after t i (option_map (row_told told) old) (deed_told told t i content) ≡ option_map (row_told told) content
  one_told old None = rw (is_row_itself t i) refl
  one_told old (Some row) = rw (is_row_itself t i) refl

  all_told : (old : Option (List Cell)) (es : List (Edit (Option (List Cell)))) → row_after_all t i (option_map (row_told told) old) (deeds (map (edit_told told t i) es)) ≡ option_map (row_told told) (after_all (replaces given) old es)
  all_told old [] = refl
  all_told old (e ∷ es) = ap (λ (row : Option Row). row_after_all t i row (deeds (map (edit_told told t i) es))) (one_told old e.deed) ∙ all_told e.deed es

  pub row_of_told : (es : List (Edit (Option (List Cell)))) → row_in t i (map (edit_told told t i) es) ≡ option_map (row_told told) (after_all (replaces given) None es)
  row_of_told es = all_told None es

-- what each of some edits has, the last one left

pub left_has : {D : Type 0} (P : Option D → Type 0) (old : Option D) (es : List (Edit (Option D))) → P old → Each (λ (e : Edit (Option D)). P e.deed) es → P (after_all (replaces given) old es)
left_has P old [] has each = has
left_has P old (e ∷ es) has each = left_has P e.deed es each.0 each.1

pub each_view : {D : Type 0} (P : Edit D → Type 0) (clock : ℕ) (viewer : Viewer) (es : List (Edit D)) → Each P es → Each P (view clock viewer es)
each_view P clock viewer [] each = tt
each_view {D} P clock viewer (e ∷ es) each = by_seen (sees clock viewer e.clock e.owner) (each_view P clock viewer es each.1)
  where
    by_seen : (b : Bool) → Each P (view clock viewer es) → Each P (cond b (e ∷ view clock viewer es) (view clock viewer es))
    by_seen true rest = (each.0, rest)
    by_seen false rest = rest
