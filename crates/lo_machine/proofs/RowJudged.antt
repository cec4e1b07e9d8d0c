-- The literals of an insert, judged one after another.
use Rattle.std.proofs.Common.{◌≡◌, ◌≤◌, ◌<◌, ℕ, zero, suc, ◌+◌, true, false, List, [], ◌∷◌, ◌++◌, length, drop, Option, Some, None, refl, ap, sym, subst, ◌∙◌, arith, append_assoc, append-nil}
use Rattle.std.specs.Prelude.{◌==◌, codes, slice_get, Result, Ok, Err, IfErr, IsErrAnd}
use Rattle.std.specs.List.{AllByRecursion}
use Rattle.std.specs.Option.{is_some, unwrap_or}
use Rattle.std.proofs.lemmas.Bool.{false≢true, eq-eqb}
use Rattle.std.proofs.lemmas.List.{length-append}
use Rattle.std.proofs.lemmas.Slice.Eq.{bytes_eq-Decides}
use Rattle.lo_base.specs.declared.column.Column.{Column}
use Rattle.lo_base.specs.declared.refusal.Denied.{Denied}
use Rattle.lo_base.specs.declared.refusal.Denied.TheVariants.{By, NoMemory}
use Rattle.lo_base.specs.declared.refusal.Refusal.{Refusal}
use Rattle.lo_base.specs.declared.value.Literal.{Literal}
use Rattle.lo_base.specs.declared.value.Value.{Value}
use Rattle.lo_pages.specs.Outcome.{first_of}
use Rattle.toast_plan.specs.Columns.{IsTableColumns, StartsWithId as ColumnsStartWithId}
use Rattle.toast_plan.specs.Row.{FitColumns, StartsWithId, is_null_value}
use Rattle.lo_machine.specs.FlatRows.{AreFlatValues}
use Rattle.lo_machine.specs.Literals.{AreValuesOf, DeniesValue, DeniesValues, IsValueOf}
use Rattle.lo_machine.specs.State.{Variable}
use Rattle.lo_machine.specs.TableRows.{wrong_count}
use Rattle.lo_machine.specs.Values.{all_judged, is_id_column, judged, value_of, values_of}
use Rattle.lo_machine.specs.Variables.{IsAs}
use Rattle.lo_machine.specs.declared.variables.Variables.{Variables}

-- ---- terms one behind another

pub first_past : (xs ys : List (Option Refusal)) → first_of xs ≡ None → first_of (xs ++ ys) ≡ first_of ys
first_past [] ys none = refl
first_past (None ∷ xs) ys none = first_past xs ys none
first_past (Some r ∷ xs) ys none = absurd (false≢true (sym (ap is_some none)))

pub first_here : (xs ys : List (Option Refusal)) (r : Refusal) → first_of xs ≡ Some r → first_of (xs ++ ys) ≡ Some r
first_here [] ys r first = absurd (false≢true (ap is_some first))
first_here (None ∷ xs) ys r first = first_here xs ys r first
first_here (Some q ∷ xs) ys r first = first

-- ---- the exit of a `?`

pub handed_on : {T : Type 0} (P : Denied → Type 0) (result : Result T Denied) (d : Denied) → IsErrAnd result (λ e. e ≡ d) → P d → IfErr result P
handed_on P (Ok x) d is p = absurd is
handed_on P (Err e) d is p = subst P (sym is) p

-- ---- the item at a place

drop_next : {X : Type 0} (xs : List X) (i : ℕ) (x : X) → slice_get xs i ≡ Some x → drop i xs ≡ x ∷ drop (suc i) xs
drop_next [] i x there = absurd (false≢true (ap is_some there))
drop_next (y ∷ ys) zero x there = ap (λ o. unwrap_or o y ∷ ys) there
drop_next (y ∷ ys) (suc i) x there = drop_next ys i x there

pub drop_here : {X : Type 0} (xs : List X) (i : ℕ) (x : X) → slice_get xs i ≡ Some x → drop i xs ≡ x ∷ drop (i + 1) xs
drop_here xs i x there = let one : suc i ≡ i + 1 = omega arith in drop_next xs i x there ∙ ap (λ k. x ∷ drop k xs) one

pub drop_past : {X : Type 0} (xs : List X) (i : ℕ) → length xs ≤ i → drop i xs ≡ []
drop_past [] zero past = refl
drop_past [] (suc i) past = refl
drop_past (x ∷ xs) zero past = absurd (omega arith)
drop_past (x ∷ xs) (suc i) past = drop_past xs i (omega arith)

pub all_at : {X : Type 0} (P : X → Type 0) (xs : List X) (i : ℕ) (x : X) → AllByRecursion P xs → slice_get xs i ≡ Some x → P x
all_at P [] i x all there = absurd (false≢true (ap is_some there))
all_at P (y ∷ ys) zero x all there = subst P (ap (λ o. unwrap_or o y) there) all.0
all_at P (y ∷ ys) (suc i) x all there = all_at P ys i x all.1 there

-- ---- the number of literals

pub right_count : (columns : List Column) (literals : List Literal) → length columns ≡ length literals → wrong_count columns literals ≡ None
right_count columns literals same = let yes : (length columns == length literals) ≡ true = eq-eqb (length columns) (length literals) same in rw yes refl

-- ---- the values so far

pub record Judged (own : Variables) (columns : List Column) (literals : List Literal) (index : ℕ) (row : List Value) : Type 0 where
  pub terms : (variables : List Variable) → IsAs own variables → first_of (all_judged variables (index + 1) (drop index columns) (drop index literals)) ≡ first_of (all_judged variables 1 columns literals)
  pub is : (variables : List Variable) → IsAs own variables → row ++ values_of variables (drop index columns) (drop index literals) ≡ values_of variables columns literals
  pub fit : (rest : List Value) → FitColumns (drop index columns) rest → FitColumns columns (row ++ rest)
  pub flat : (rest : List Value) → AreFlatValues (drop index columns) rest → AreFlatValues columns (row ++ rest)
  pub long : length row ≡ index
  pub id : 0 < index → StartsWithId row

pub judged_none : (own : Variables) (columns : List Column) (literals : List Literal) → Judged own columns literals 0 []
judged_none own columns literals = record {
  terms = λ variables named. refl;
  is = λ variables named. refl;
  fit = λ rest h. h;
  flat = λ rest h. h;
  long = refl;
  id = λ some. absurd (omega arith);
}

first_is_id : (columns : List Column) (c : Column) (more : List Column) → ColumnsStartWithId columns → columns ≡ c ∷ more → is_id_column c ≡ true
first_is_id columns c more starts is =
    let first : ColumnsStartWithId (c ∷ more) = subst ColumnsStartWithId is starts in
    (bytes_eq-Decides c.name (codes "id")).1 first.0

starts_more : (columns : List Column) (c : Column) (more : List Column) (row : List Value) (v : Value) (index : ℕ) → ColumnsStartWithId columns → drop index columns ≡ c ∷ more → length row ≡ index → (0 < index → StartsWithId row) → (is_id_column c ≡ true → is_null_value v ≡ false) → StartsWithId (row ++ v ∷ [])
starts_more columns c more [] v zero starts at long id there = there (first_is_id columns c more starts at)
starts_more columns c more [] v (suc index) starts at long id there = absurd (omega arith)
starts_more columns c more (x ∷ row) v index starts at long id there = id (omega arith)

module _ (own : Variables) (columns : List Column) (literals : List Literal) (index : ℕ) (row : List Value) (h : Judged own columns literals index row) (c : Column) (literal : Literal) (at : drop index columns ≡ c ∷ drop (index + 1) columns) (literal_at : drop index literals ≡ literal ∷ drop (index + 1) literals) where
  terms_here : (variables : List Variable) → IsAs own variables → first_of (judged variables c (index + 1) literal ++ all_judged variables (index + 1 + 1) (drop (index + 1) columns) (drop (index + 1) literals)) ≡ first_of (all_judged variables 1 columns literals)
  terms_here variables named =
      let before : first_of (all_judged variables (index + 1) (drop index columns) (drop index literals)) ≡ first_of (all_judged variables 1 columns literals) = h.terms variables named in
      sym (ap (λ cs. first_of (all_judged variables (index + 1) cs (drop index literals))) at ∙ ap (λ ls. first_of (all_judged variables (index + 1) (c ∷ drop (index + 1) columns) ls)) literal_at) ∙ before

  values_here : (variables : List Variable) → IsAs own variables → row ++ (value_of variables c literal ∷ values_of variables (drop (index + 1) columns) (drop (index + 1) literals)) ≡ values_of variables columns literals
  values_here variables named =
      sym (ap (λ cs. row ++ values_of variables cs (drop index literals)) at ∙ ap (λ ls. row ++ values_of variables (c ∷ drop (index + 1) columns) ls) literal_at) ∙ h.is variables named

  pub judged_more : IsTableColumns columns → (v : Value) → IsValueOf own c (index + 1) literal v → Judged own columns literals (index + 1) (row ++ v ∷ [])
  judged_more table v is = record {
    terms = λ variables named. sym (first_past (judged variables c (index + 1) literal) _ (is.unrefused variables named)) ∙ terms_here variables named;
    is = λ variables named.
        append_assoc row (v ∷ []) (values_of variables (drop (index + 1) columns) (drop (index + 1) literals))
        ∙ ap (λ x. row ++ (x ∷ values_of variables (drop (index + 1) columns) (drop (index + 1) literals))) (is.is variables named)
        ∙ values_here variables named;
    fit = λ rest fits. subst (FitColumns columns) (sym (append_assoc row (v ∷ []) rest)) (h.fit (v ∷ rest) (subst (λ cs. FitColumns cs (v ∷ rest)) (sym at) (is.fits, fits)));
    flat = λ rest flat. subst (AreFlatValues columns) (sym (append_assoc row (v ∷ []) rest)) (h.flat (v ∷ rest) (subst (λ cs. AreFlatValues cs (v ∷ rest)) (sym at) (is.flat, flat)));
    long = omega (arith, length-append row (v ∷ []), h.long);
    id = λ some. starts_more columns c (drop (index + 1) columns) row v index table.id_first at h.long h.id is.there;
  }

  pub judged_bad : length columns ≡ length literals → (d : Denied) → DeniesValue own c (index + 1) literal d → DeniesValues own columns literals d
  judged_bad counted NoMemory bad = tt
  judged_bad counted (By r) bad = λ variables named.
      rw (right_count columns literals counted)
      (sym (terms_here variables named) ∙ first_here (judged variables c (index + 1) literal) _ r (bad variables named))

pub all_judged_so : (own : Variables) (columns : List Column) (literals : List Literal) (index : ℕ) (row : List Value) → IsTableColumns columns → length columns ≡ length literals → length columns ≤ index → Judged own columns literals index row → AreValuesOf own columns literals row
all_judged_so own columns literals index row table counted past h =
    let end : drop index columns ≡ [] = drop_past columns index past in
    record {
      counted = right_count columns literals counted;
      unrefused = λ variables named. sym (h.terms variables named) ∙ ap (λ cs. first_of (all_judged variables (index + 1) cs (drop index literals))) end;
      is = λ variables named. sym (append-nil row) ∙ sym (ap (λ cs. row ++ values_of variables cs (drop index literals)) end) ∙ h.is variables named;
      fit = record {
        id = h.id (some_columns columns index table.id_first past);
        fit = subst (FitColumns columns) (append-nil row) (h.fit [] (subst (λ cs. FitColumns cs []) (sym end) tt));
      };
      flat = subst (AreFlatValues columns) (append-nil row) (h.flat [] (subst (λ cs. AreFlatValues cs []) (sym end) tt));
    }
  where
    some_columns : (cs : List Column) (i : ℕ) → ColumnsStartWithId cs → length cs ≤ i → 0 < i
    some_columns [] i starts le = absurd starts
    some_columns (c ∷ cs) i starts le = omega arith
