-- Values that an insert or an update gives fit their columns and have the ranges of their types, and the id stands in front of
-- them, where variables hold arrays that they may hold.
use Rattle.std.proofs.Common.{◌≡◌, ◌≤◌, ◌<◌, ◌^◌, ℕ, ℤ, pos, ◌+◌, Bool, true, false, cond, List, [], ◌∷◌, length, Option, Some, None, refl, ap, sym, subst, ◌∙◌, arith}
use Rattle.std.specs.Prelude.{All, not, ◌||◌, bytes_eq, codes, FitsSigned}
use Rattle.std.specs.Int.{w64}
use Rattle.std.specs.List.{AllByRecursion}
use Rattle.std.proofs.lemmas.Bool.{false≢true, true≢false}
use Rattle.std.proofs.lemmas.List.Elements.{All-nil, All-cons, All-head, All-tail}
use Rattle.std.proofs.lemmas.Slice.Eq.{bytes_eq-Decides}
use Rattle.expanded_array.specs.Array.{Array, IsHeld}
use Rattle.expanded_array.specs.Flat.{flat_bytes}
use Rattle.expanded_array.specs.Read.{array_of_text}
use Rattle.lo_base.specs.declared.column.Column.{Column}
use Rattle.lo_base.specs.declared.column.ColType.{ColType}
use Rattle.lo_base.specs.declared.column.ColType.TheVariants as types
use Rattle.lo_base.specs.declared.refusal.Cause.TheVariants.{WrongType}
use Rattle.lo_base.specs.declared.refusal.Refusal.{Refusal}
use Rattle.lo_base.specs.declared.request.Assign.{Assign}
use Rattle.lo_base.specs.declared.value.Literal.{Literal}
use Rattle.lo_base.specs.declared.value.Literal.TheVariants.{Null, Number, Bytes, ArrayText, Variable as VariableNamed}
use Rattle.lo_base.specs.declared.value.Value.{Value}
use Rattle.lo_base.specs.declared.value.Value.TheVariants as values
use Rattle.lo_calls.specs.Terms.{when, is_outside, count_of}
use Rattle.lo_pages.specs.Outcome.{first_of}
use Rattle.row_tables.specs.Values.{HasId, change_of, changed_value, changed_values, id_of}
use Rattle.row_tables.specs.declared.change.Change.{Change}
use Rattle.toast_plan.specs.Columns.{IsTableColumns, StartsWithId as ColumnsStartWithId}
use Rattle.toast_plan.specs.Row.{AreRowValues, FitColumns, FitsType, StartsWithId, is_null_value}
use Rattle.toast_plan.specs.Writing.{HasRange}
use Rattle.lo_machine.specs.Fitting.{HasLiteralRange, IsRow}
use Rattle.lo_machine.specs.Spelled.{IsLiteral}
use Rattle.lo_machine.specs.State.{Variable, variable_in}
use Rattle.lo_machine.specs.TableRows.{change_judged, changed_to, changes_judged, changes_of}
use Rattle.lo_machine.specs.Values.{all_judged, array_or_empty, bad_text, column_in, fits, is_bytea, is_id_column, is_int4_array, no_variable, number_fits, number_value, oid_most, value_of, values_of}
use Rattle.lo_machine.specs.Well.{AreHeld}
use Rattle.lo_machine.proofs.ChangesJudged.{AreFound, all_found}
use Rattle.lo_machine.proofs.FitObjects.{inside}
use Rattle.lo_machine.proofs.FlatBytes.{flat_are_bytes, flat_count}
use Rattle.lo_machine.proofs.FlatLiterals.{text_held, variable_held}
use Rattle.lo_machine.proofs.Unmet.{first_none, front_none, rest_none, unmet, not_unmet}

-- the id stands in front of a row's values
pub id_there : (columns : List Column) (row : List Value) → ColumnsStartWithId columns → AreRowValues columns row → HasId (id_of row) row
id_there [] row starts is = absurd starts
id_there (c ∷ cs) [] starts is = absurd is.id
id_there (c ∷ cs) (values.Null ∷ row) starts is = absurd (true≢false is.id)
id_there (c ∷ cs) (values.Int n ∷ row) starts is = refl
id_there (c ∷ cs) (values.Oid n ∷ row) starts is = absurd (subst (λ (kind : ColType). FitsType kind (values.Oid n)) starts.1 is.fit.0)
id_there (c ∷ cs) (values.Bytes bytes ∷ row) starts is = absurd (subst (λ (kind : ColType). FitsType kind (values.Bytes bytes)) starts.1 is.fit.0)

-- one value

pub record IsGood (kind : ColType) (v : Value) : Type 0 where
  pub fits : FitsType kind v
  pub range : HasRange v

abbrev AreGood : List Column → List Value → Type 0
AreGood [] [] = Unit {0}
AreGood (c ∷ columns) (v ∷ row) = IsGood c.kind v × AreGood columns row
AreGood _ _ = ⊥

good_fit : (columns : List Column) (row : List Value) → AreGood columns row → FitColumns columns row
good_fit [] [] good = tt
good_fit [] (v ∷ row) good = absurd good
good_fit (c ∷ cs) [] good = absurd good
good_fit (c ∷ cs) (v ∷ row) good = (good.0.fits, good_fit cs row good.1)

good_range : (columns : List Column) (row : List Value) → AreGood columns row → All HasRange row
good_range [] [] good = All-nil HasRange
good_range [] (v ∷ row) good = absurd good
good_range (c ∷ cs) [] good = absurd good
good_range (c ∷ cs) (v ∷ row) good = All-cons HasRange v row good.0.range (good_range cs row good.1)

fit_good : (columns : List Column) (row : List Value) → FitColumns columns row → All HasRange row → AreGood columns row
fit_good [] [] fit range = tt
fit_good [] (v ∷ row) fit range = absurd fit
fit_good (c ∷ cs) [] fit range = absurd fit
fit_good (c ∷ cs) (v ∷ row) fit range = (record { fits = fit.0; range = All-head HasRange v row range }, fit_good cs row fit.1 (All-tail HasRange v row range))

array_good : (kind : ColType) (a : Array) → is_int4_array kind ≡ true → IsHeld a → IsGood kind (values.Bytes (flat_bytes a))
array_good types.Int8 a is held = absurd (false≢true is)
array_good types.Oid a is held = absurd (false≢true is)
array_good types.Lo a is held = absurd (false≢true is)
array_good types.Bytea a is held = absurd (false≢true is)
array_good types.Int4Array a is held = record { fits = flat_count a held; range = flat_are_bytes a }

bytes_good : (kind : ColType) (bytes : List ℕ) → is_bytea kind ≡ true → length bytes ≤ 16777216 → All (λ b. b < 256) bytes → IsGood kind (values.Bytes bytes)
bytes_good types.Int8 bytes is few range = absurd (false≢true is)
bytes_good types.Oid bytes is few range = absurd (false≢true is)
bytes_good types.Lo bytes is few range = absurd (false≢true is)
bytes_good types.Bytea bytes is few range = record { fits = few; range = range }
bytes_good types.Int4Array bytes is few range = absurd (false≢true is)

not_so : (b : Bool) → not b ≡ true → b ≡ false
not_so false is = refl
not_so true is = absurd (false≢true is)

oid_small : (n : ℤ) → not (is_outside oid_most n) ≡ true → count_of n < 2 ^ 32
oid_small n is = omega (arith, inside 4294967295 n (not_so (is_outside oid_most n) is))

number_good : (kind : ColType) (n : ℤ) → number_fits kind n ≡ true → FitsSigned w64 n → IsGood kind (number_value kind n)
number_good types.Int8 n is range = record { fits = tt; range = range }
number_good types.Oid n is range = record { fits = tt; range = oid_small n is }
number_good types.Lo n is range = record { fits = tt; range = oid_small n is }
number_good types.Bytea n is range = absurd (false≢true is)
number_good types.Int4Array n is range = absurd (false≢true is)

module _ (variables : List Variable) (held : AreHeld variables) where
  literal_good : (c : Column) (literal : Literal) → fits c literal ≡ true → bad_text literal ≡ None → IsLiteral literal → HasLiteralRange literal → IsGood c.kind (value_of variables c literal)
  literal_good c Null fit good spelled range = record { fits = tt; range = tt }
  literal_good c (Number n) fit good spelled range = number_good c.kind n fit range
  literal_good c (Bytes bytes) fit good spelled range = bytes_good c.kind bytes fit spelled range
  literal_good c (ArrayText text) fit good spelled range = array_good c.kind (array_or_empty (array_of_text text)) fit (text_held text good)
  literal_good c (VariableNamed name) fit good spelled range = array_good c.kind (array_or_empty (variable_in name variables)) fit (variable_held name variables held)

  -- all literals of an insert

  values_good : (k : ℕ) (columns : List Column) (literals : List Literal) → length columns ≡ length literals → first_of (all_judged variables k columns literals) ≡ None → AllByRecursion IsLiteral literals → AllByRecursion HasLiteralRange literals → AreGood columns (values_of variables columns literals)
  values_good k [] [] same none spelled range = tt
  values_good k [] (l ∷ ls) same none spelled range = absurd (omega (arith, same))
  values_good k (c ∷ cs) [] same none spelled range = absurd (omega (arith, same))
  values_good k (c ∷ cs) (l ∷ ls) same none spelled range =
      let texts : List (Option Refusal) = bad_text l ∷ all_judged variables (k + 1) cs ls in
      let fit = first_none (when (not (fits c l)) WrongType (pos k)) texts (first_none (no_variable variables l) (when (not (fits c l)) WrongType (pos k) ∷ texts) none).1 in
      let good = first_none (bad_text l) (all_judged variables (k + 1) cs ls) fit.1 in
      (literal_good c l (not_unmet (fits c l) (unmet (not (fits c l)) WrongType (pos k) fit.0)) good.0 spelled.0 range.0, values_good (k + 1) cs ls (omega (arith, same)) good.1 spelled.1 range.1)

  literal_there : (c : Column) (literal : Literal) → is_id_column c ≡ true → fits c literal ≡ true → c.kind ≡ types.Int8 → is_null_value (value_of variables c literal) ≡ false
  literal_there c Null id fit kind = absurd (false≢true (sym (ap not id) ∙ fit))
  literal_there c (Number n) id fit kind = rw kind refl
  literal_there c (Bytes bytes) id fit kind = refl
  literal_there c (ArrayText text) id fit kind = refl
  literal_there c (VariableNamed name) id fit kind = refl

  values_start : (k : ℕ) (columns : List Column) (literals : List Literal) → ColumnsStartWithId columns → length columns ≡ length literals → first_of (all_judged variables k columns literals) ≡ None → StartsWithId (values_of variables columns literals)
  values_start k [] literals starts same none = absurd starts
  values_start k (c ∷ cs) [] starts same none = absurd (omega (arith, same))
  values_start k (c ∷ cs) (l ∷ ls) starts same none =
      let texts : List (Option Refusal) = bad_text l ∷ all_judged variables (k + 1) cs ls in
      let fit = first_none (when (not (fits c l)) WrongType (pos k)) texts (first_none (no_variable variables l) (when (not (fits c l)) WrongType (pos k) ∷ texts) none).1 in
      literal_there c l ((bytes_eq-Decides c.name (codes "id")).1 starts.0) (not_unmet (fits c l) (unmet (not (fits c l)) WrongType (pos k) fit.0)) starts.1

  pub inserted_row : (columns : List Column) (literals : List Literal) → IsTableColumns columns → length columns ≡ length literals → first_of (all_judged variables 1 columns literals) ≡ None → AllByRecursion IsLiteral literals → AllByRecursion HasLiteralRange literals → IsRow columns (id_of (values_of variables columns literals)) (values_of variables columns literals)
  inserted_row columns literals are same none spelled range =
      let good : AreGood columns (values_of variables columns literals) = values_good 1 columns literals same none spelled range in
      let row : AreRowValues columns (values_of variables columns literals) = record { id = values_start 1 columns literals are.id_first same none; fit = good_fit columns (values_of variables columns literals) good } in
      record { values = row; range = good_range columns (values_of variables columns literals) good; id = id_there columns (values_of variables columns literals) are.id_first row }

  -- the changes of an update

  or_parts : (a b : Bool) → (a || b) ≡ false → (a ≡ false) × (b ≡ false)
  or_parts true b is = absurd (true≢false is)
  or_parts false b is = (refl, is)

  -- a change of the column that is not refused: not of the id, and with a good value
  record IsChange (c : Column) (literal : Literal) : Type 0 where
    other : is_id_column c ≡ false
    good : IsGood c.kind (value_of variables c literal)

  one_change : (k : ℕ) (c : Column) (literal : Literal) → first_of (change_judged variables k literal (Some c)) ≡ None → IsLiteral literal → HasLiteralRange literal → IsChange c literal
  one_change k c literal none spelled range =
      let test : Bool = is_id_column c || not (fits c literal) in
      let fit = first_none (when test WrongType (pos k)) (bad_text literal ∷ []) (first_none (no_variable variables literal) (when test WrongType (pos k) ∷ bad_text literal ∷ []) none).1 in
      let good = first_none (bad_text literal) [] fit.1 in
      let parts = or_parts (is_id_column c) (not (fits c literal)) (unmet (is_id_column c || not (fits c literal)) WrongType (pos k) fit.0) in
      record { other = parts.0; good = literal_good c literal (not_unmet (fits c literal) parts.1) good.0 spelled range }

  module _ (whole : List Column) where
    abbrev given : List Assign → List Change
    given changes = changes_of variables whole changes

    -- what holds of a column's value holds of the changed one, if it holds of each value that a change of the column gives
    changed_has : (P : Value → Type 0) (k : ℕ) (changes : List Assign) → first_of (changes_judged variables whole k changes) ≡ None → AllByRecursion (λ (a : Assign). IsLiteral a.value) changes → AllByRecursion (λ (a : Assign). HasLiteralRange a.value) changes → (c : Column) → column_in c.name whole ≡ Some c → ((literal : Literal) → IsChange c literal → P (value_of variables c literal)) → (v : Value) → P v → P (changed_value (change_of c.name (given changes)) v)
    changed_has P k [] none spelled range c found each v has = has
    changed_has P k (a ∷ changes) none spelled range c found each v has = by (bytes_eq a.column c.name) refl (λ rest. changed_has P (k + 1) changes rest spelled.1 range.1 c found each v has)
      where
        one : Change
        one = record { column = a.column; value = changed_to variables a.value (column_in a.column whole) }

        by : (b : Bool) → bytes_eq a.column c.name ≡ b → (first_of (changes_judged variables whole (k + 1) changes) ≡ None → P (changed_value (change_of c.name (given changes)) v)) → P (changed_value (cond b (Some one) (change_of c.name (given changes))) v)
        by true is rest =
            let name : a.column ≡ c.name = (bytes_eq-Decides a.column c.name).0 is in
            let here : column_in a.column whole ≡ Some c = ap (λ (n : List ℕ). column_in n whole) name ∙ found in
            let first : first_of (change_judged variables k a.value (column_in a.column whole)) ≡ None = front_none (change_judged variables k a.value (column_in a.column whole)) (changes_judged variables whole (k + 1) changes) none in
            subst (λ (o : Option Column). P (changed_to variables a.value o)) (sym here) (each a.value (one_change k c a.value (subst (λ (o : Option Column). first_of (change_judged variables k a.value o) ≡ None) here first) spelled.0 range.0))
        by false is rest = rest (rest_none (change_judged variables k a.value (column_in a.column whole)) (changes_judged variables whole (k + 1) changes) none)

    module _ (changes : List Assign) (none : first_of (changes_judged variables whole 1 changes) ≡ None) (spelled : AllByRecursion (λ (a : Assign). IsLiteral a.value) changes) (range : AllByRecursion (λ (a : Assign). HasLiteralRange a.value) changes) where
      changes_good : (columns : List Column) → AreFound whole columns → (row : List Value) → AreGood columns row → AreGood columns (changed_values (given changes) columns row)
      changes_good [] found [] good = tt
      changes_good [] found (v ∷ row) good = absurd good
      changes_good (c ∷ cs) found [] good = absurd good
      changes_good (c ∷ cs) found (v ∷ row) good = (changed_has (IsGood c.kind) 1 changes none spelled range c found.0 (λ literal is. is.good) v good.0, changes_good cs found.1 row good.1)

      -- the id stays
      same_id : (c : Column) → is_id_column c ≡ true → column_in c.name whole ≡ Some c → (v : Value) → changed_value (change_of c.name (given changes)) v ≡ v
      same_id c id found v = changed_has (λ (w : Value). w ≡ v) 1 changes none spelled range c found (λ literal is. absurd (false≢true (sym is.other ∙ id))) v refl

      id_kept : (columns : List Column) (i : ℤ) (row : List Value) → ColumnsStartWithId columns → AreFound whole columns → HasId i row → HasId i (changed_values (given changes) columns row)
      id_kept [] i row starts found has = absurd starts
      id_kept (c ∷ cs) i [] starts found has = absurd has
      id_kept (c ∷ cs) i (v ∷ row) starts found has = same_id c ((bytes_eq-Decides c.name (codes "id")).1 starts.0) found.0 v ∙ has

      starts_with : (i : ℤ) (row : List Value) → HasId i row → StartsWithId row
      starts_with i [] has = has
      starts_with i (v ∷ row) has = ap is_null_value has

      pub changed_row : IsTableColumns whole → (i : ℤ) (row : List Value) → IsRow whole i row → IsRow whole i (changed_values (given changes) whole row)
      changed_row are i row is =
          let found : AreFound whole whole = all_found whole are.distinct in
          let good : AreGood whole (changed_values (given changes) whole row) = changes_good whole found row (fit_good whole row is.values.fit is.range) in
          let id : HasId i (changed_values (given changes) whole row) = id_kept whole i row are.id_first found is.id in
          record {
            values = record { id = starts_with i (changed_values (given changes) whole row) id; fit = good_fit whole (changed_values (given changes) whole row) good };
            range = good_range whole (changed_values (given changes) whole row) good;
            id = id;
          }
