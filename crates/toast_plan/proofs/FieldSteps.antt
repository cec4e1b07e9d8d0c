-- One more field is written.
use Rattle.std.proofs.Common.{◌≡◌, ℕ, suc, ◌+◌, ◌<◌, ◌≤◌, Bool, true, false, cond, List, ◌∷◌, ◌++◌, length, take, drop, get_or, refl, sym, ap, ◌∙◌, append_assoc, add-one, arith}
use Rattle.std.specs.Int.{from_bool}
use Rattle.std.proofs.Common.{subst, inl, inr}
use Rattle.std.proofs.lemmas.Bool.{cases_eq}
use Rattle.std.proofs.lemmas.List.{get_or_default}
use Rattle.std.proofs.Math.Seq.{drop-cons}
use Rattle.std.proofs.lemmas.List.{drop-drop}
use Rattle.lo_base.specs.declared.value.Value.{Value}
use Rattle.toast_plan.specs.Row.{field_form, row_form, field_of, fields_of, count_outside}
use Rattle.toast_plan.specs.Writing.{with_piece, HasRange}
use Rattle.toast_plan.proofs.Pieces.{front_of_piece, rest_of_piece}

bool_is : (o : Bool) → from_bool o ≡ cond {A = ℕ} o 1 0
bool_is true = refl
bool_is false = refl

marks_at : (os : List Bool) (i : ℕ) → i < length os → drop i os ≡ get_or os i false ∷ drop (i + 1) os
marks_at os i lt = rw add-one (drop-cons os i false lt)

pub fields_at : (table number next : ℕ) (vs : List Value) (os : List Bool) (i : ℕ) (v : Value) → v ≡ get_or vs i v → i < length vs → i < length os → next ≡ from_bool (get_or os i false)
    → fields_of table number (drop i vs) (drop i os) ≡ field_of table number v (get_or os i false) ∷ fields_of table (number + next) (drop (i + 1) vs) (drop (i + 1) os)
fields_at table number next vs os i v is lt lo e =
    let values : drop i vs ≡ v ∷ drop (i + 1) vs = rw add-one (drop-cons vs i v lt ∙ ap (λ (x : Value). x ∷ drop (suc i) vs) (sym is)) in
    let step : next ≡ cond {A = ℕ} (get_or os i false) 1 0 = e ∙ bool_is (get_or os i false) in
    rw (values, marks_at os i lo, step) refl

pub form_at : (table number next : ℕ) (vs : List Value) (os : List Bool) (i : ℕ) (v : Value) → v ≡ get_or vs i v → i < length vs → i < length os → next ≡ from_bool (get_or os i false)
    → row_form (fields_of table number (drop i vs) (drop i os)) ≡ field_form (field_of table number v (get_or os i false)) ++ row_form (fields_of table (number + next) (drop (i + 1) vs) (drop (i + 1) os))
form_at table number next vs os i v is lt lo e = ap row_form (fields_at table number next vs os i v is lt lo e)

pub count_at : (next : ℕ) (os : List Bool) (i : ℕ) → i < length os → next ≡ from_bool (get_or os i false) → count_outside (drop i os) ≡ next + count_outside (drop (i + 1) os)
count_at next os i lt e = ap count_outside (marks_at os i lt) ∙ ap (λ (x : ℕ). x + count_outside (drop (i + 1) os)) (sym (e ∙ bool_is (get_or os i false)))

pub front_at : (at end : ℕ) (piece out new others rest all : List ℕ) → at ≤ length out → end ≡ at + length piece → new ≡ with_piece at piece out → others ≡ piece ++ rest → take at out ++ others ≡ all → take end new ++ rest ≡ all
front_at at end piece out new others rest all le e written parts so_far =
    let front : take end new ≡ take at out ++ piece = ap (λ (x : ℕ). take x new) e ∙ ap (take (at + length piece)) written ∙ front_of_piece at piece out le in
    ap (λ (x : List ℕ). x ++ rest) front ∙ append_assoc (take at out) piece rest ∙ ap (λ (x : List ℕ). take at out ++ x) (sym parts) ∙ so_far

pub rest_at : (at end : ℕ) (piece out new start : List ℕ) → at ≤ length out → end ≡ at + length piece → new ≡ with_piece at piece out → drop at out ≡ drop at start → drop end new ≡ drop end start
rest_at at end piece out new start le e written so_far =
    let further : (x : List ℕ) → drop (at + length piece) x ≡ drop (length piece) (drop at x) = λ x. sym (drop-drop (length piece) at x) in
    ap (λ (x : ℕ). drop x new) e ∙ ap (drop (at + length piece)) written ∙ rest_of_piece at piece out le ∙ further out ∙ ap (drop (length piece)) so_far ∙ sym (further start) ∙ ap (λ (x : ℕ). drop x start) (sym e)

pub range_at : (vs : List Value) (i : ℕ) (v : Value) → v ≡ get_or vs i v → i < length vs → ((k : ℕ) (d : Value) → k < i → HasRange (get_or vs k d)) → HasRange v → (k : ℕ) (d : Value) → k < i + 1 → HasRange (get_or vs k d)
range_at vs i v is lt earlier here k d le =
    elim (cases_eq k i) [
      | inl same ↦
          let e : v ≡ get_or vs k d = is ∙ get_or_default vs i v d lt ∙ ap (λ (x : ℕ). get_or vs x d) (sym same) in
          subst HasRange e here
      | inr other ↦ earlier k d (omega arith)
    ]
