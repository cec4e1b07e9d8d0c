-- The place of a column, looked for from the front, and what a request for a part of it is refused by.
use Rattle.std.proofs.Common.{◌≡◌, ◌≤◌, ℕ, pos, zero, suc, ◌+◌, true, false, cond, List, [], ◌∷◌, length, drop, get_or, Some, None, refl, ap, sym, subst, ◌∙◌, arith, ◌⊎◌, ⊎_elim}
use Rattle.std.specs.Prelude.{bytes_eq, slice_get}
use Rattle.std.specs.Option.{is_some, unwrap_or}
use Rattle.std.proofs.lemmas.Bool.{false≢true}
use Rattle.lo_base.specs.declared.column.ColType.{ColType}
use Rattle.lo_base.specs.declared.column.ColType.TheVariants as types
use Rattle.lo_base.specs.declared.column.Column.{Column}
use Rattle.lo_base.specs.declared.refusal.Cause.TheVariants.{NoColumn, WrongType}
use Rattle.lo_base.specs.declared.value.Value.{Value}
use Rattle.row_tables.specs.Reading.{IsNoPlace, IsPlace}
use Rattle.row_tables.specs.RowRules.{column_in, is_bytea, slice_refusals, value_under}
use Rattle.row_tables.specs.Terms.{first_of, refusal}

-- the columns below a place have other names
pub record LooksFrom (columns : List Column) (name : List ℕ) (place : ℕ) : Type 0 where
  pub column : column_in name (drop place columns) ≡ column_in name columns
  pub value : (row : List Value) (v : Value) → slice_get row place ≡ Some v → value_under name (drop place columns) (drop place row) ≡ value_under name columns row

pub looks_first : (columns : List Column) (name : List ℕ) → LooksFrom columns name 0
looks_first columns name = record { column = refl; value = λ row v there. refl }

drop_at : {X : Type 0} (xs : List X) (i : ℕ) (x : X) → slice_get xs i ≡ Some x → drop i xs ≡ x ∷ drop (suc i) xs
drop_at [] i x there = absurd (false≢true (ap is_some there))
drop_at (y ∷ ys) zero x there = ap (λ o. unwrap_or o y ∷ ys) there
drop_at (y ∷ ys) (suc i) x there = drop_at ys i x there

before_last : {X : Type 0} (xs : List X) (i : ℕ) (x : X) → slice_get xs (suc i) ≡ Some x → slice_get xs i ≡ Some (get_or xs i x)
before_last [] i x there = absurd (false≢true (ap is_some there))
before_last (y ∷ ys) zero x there = refl
before_last (y ∷ ys) (suc i) x there = before_last ys i x there

module _ (columns : List Column) (name : List ℕ) (place : ℕ) (c : Column) (there : slice_get columns place ≡ Some c) (looks : LooksFrom columns name place) where
  looks_after : bytes_eq c.name name ≡ false → LooksFrom columns name (suc place)
  looks_after other = record {
    column = sym (ap (column_in name) (drop_at columns place c there) ∙ ap (λ b. cond b (Some c) (column_in name (drop (suc place) columns))) other) ∙ looks.column;
    value = λ row v at.
        let u : Value = get_or row place v in
        let before : slice_get row place ≡ Some u = before_last row place v at in
        sym (ap (λ (cs : List Column). value_under name cs (drop place row)) (drop_at columns place c there) ∙ (ap (value_under name (c ∷ drop (suc place) columns)) (drop_at row place u before) ∙ ap (λ b. cond b u (value_under name (drop (suc place) columns) (drop (suc place) row))) other))
        ∙ looks.value row u before;
  }

  pub looks_next : bytes_eq c.name name ≡ false → LooksFrom columns name (place + 1)
  looks_next other = let one : suc place ≡ place + 1 = omega arith in subst (LooksFrom columns name) one (looks_after other)

  module _ (same : bytes_eq c.name name ≡ true) where
    found_here : column_in name columns ≡ Some c
    found_here = sym looks.column ∙ (ap (column_in name) (drop_at columns place c there) ∙ ap (λ b. cond b (Some c) (column_in name (drop (suc place) columns))) same)

    pub place_here : is_bytea c.kind ≡ true → IsPlace columns name place
    place_here bytea = record {
      column = c;
      found = found_here;
      bytea = bytea;
      there = there;
      value = λ row v at. sym (looks.value row v at) ∙ (ap (λ (cs : List Column). value_under name cs (drop place row)) (drop_at columns place c there) ∙ (ap (value_under name (c ∷ drop (suc place) columns)) (drop_at row place v at) ∙ ap (λ b. cond b v (value_under name (drop (suc place) columns) (drop (suc place) row))) same));
    }

    pub no_place_here : is_bytea c.kind ≡ false → IsNoPlace columns name (refusal WrongType (pos 2))
    no_place_here other from count =
        let by : first_of (slice_refusals columns name from count) ≡ Some (refusal WrongType (pos 2)) = rw (found_here) (rw (other) refl) in by

pub no_column : (columns : List Column) (name : List ℕ) (place : ℕ) → length columns ≤ place → LooksFrom columns name place → IsNoPlace columns name (refusal NoColumn (pos 2))
no_column columns name place past looks from count =
    let none : column_in name columns ≡ None = sym looks.column ∙ ap (column_in name) (dropped columns place past) in
    rw (none) refl
  where
    dropped : {X : Type 0} (xs : List X) (i : ℕ) → length xs ≤ i → drop i xs ≡ []
    dropped [] zero le = refl
    dropped [] (suc i) le = refl
    dropped (x ∷ xs) zero le = absurd (omega arith)
    dropped (x ∷ xs) (suc i) le = dropped xs i (omega arith)

pub other_kind : (kind : ColType) → (kind ≡ types.Int8) ⊎ ((kind ≡ types.Oid) ⊎ ((kind ≡ types.Lo) ⊎ (kind ≡ types.Int4Array))) → is_bytea kind ≡ false
other_kind kind one = ⊎_elim (ap is_bytea) (⊎_elim (ap is_bytea) (⊎_elim (ap is_bytea) (ap is_bytea))) one
