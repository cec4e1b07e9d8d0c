-- Values of array columns that an insert or an update gives are flat, where variables hold arrays that they may hold; so is the
-- array that is loaded from a row.
use Rattle.std.proofs.Common.{◌≡◌, ◌≤◌, ℕ, ℤ, pos, ◌+◌, Bool, true, false, cond, List, [], ◌∷◌, length, Option, Some, None, refl, ap, sym, subst, ◌∙◌, arith}
use Rattle.std.specs.Prelude.{not, ◌||◌, bytes_eq, filter, is_some, nat_lt}
use Rattle.std.proofs.lemmas.Bool.{false≢true, true≢false}
use Rattle.std.proofs.lemmas.Bool.Decides.{nat_tests}
use Rattle.std.proofs.lemmas.List.Elements.{All-cons, All-filter, All-head, All-tail}
use Rattle.std.proofs.lemmas.Slice.Eq.{bytes_eq-Decides}
use Rattle.expanded_array.specs.Answer.{too_big}
use Rattle.expanded_array.specs.Array.{Array, Empty, Bounded, IsArray, IsHeld, limit, size_of}
use Rattle.expanded_array.specs.Flat.{flat_bytes}
use Rattle.expanded_array.specs.Layout.{array_in}
use Rattle.expanded_array.specs.Read.{array_of_text, refusal_of_array, size_refusal, text_refusal}
use Rattle.expanded_array.specs.Spelling.{Spells}
use Rattle.expanded_array.proofs.FlatLaws.{flat_holds}
use Rattle.expanded_array.proofs.TextLaws.{text_shown}
use Rattle.expanded_array.proofs.Uniqueness.{spelled_bounds}
use Rattle.lo_base.specs.declared.column.Column.{Column}
use Rattle.lo_base.specs.declared.column.ColType.{ColType}
use Rattle.lo_base.specs.declared.column.ColType.TheVariants as types
use Rattle.lo_base.specs.declared.refusal.Cause.TheVariants.{WrongType}
use Rattle.lo_base.specs.declared.refusal.Refusal.{Refusal}
use Rattle.lo_base.specs.declared.request.Assign.{Assign}
use Rattle.lo_base.specs.declared.value.Literal.{Literal}
use Rattle.lo_base.specs.declared.value.Literal.TheVariants.{Null, Number, Bytes, ArrayText, Variable as VariableNamed}
use Rattle.lo_base.specs.declared.value.Value.{Value}
use Rattle.lo_base.specs.declared.value.Value.TheVariants as values
use Rattle.lo_calls.specs.Terms.{when}
use Rattle.lo_pages.specs.Outcome.{first_of}
use Rattle.row_tables.specs.RowRules.{value_under}
use Rattle.row_tables.specs.Values.{change_of, changed_value, changed_values}
use Rattle.row_tables.specs.declared.change.Change.{Change}
use Rattle.lo_machine.specs.ArrayRows.{array_of_value, no_array_column, variable_set}
use Rattle.lo_machine.specs.FlatRows.{AreFlatIn, AreFlatValues, IsFlatValue}
use Rattle.lo_machine.specs.State.{Variable, variable_in}
use Rattle.lo_machine.specs.TableRows.{change_judged, changed_to, changes_judged, changes_of}
use Rattle.lo_machine.specs.Values.{all_judged, array_or_empty, bad_text, column_in, fits, is_bytea, is_id_column, is_int4_array, no_variable, number_fits, number_value, value_of, values_of}
use Rattle.lo_machine.specs.Well.{AreHeld, HoldsArray}
use Rattle.lo_machine.proofs.ChangesJudged.{AreFound}
use Rattle.lo_machine.proofs.Unmet.{first_none, front_none, rest_none, unmet, not_unmet}

-- arrays that variables may hold

pub empty_held : IsHeld Empty
empty_held = record { array = tt; few = omega arith }

few_enough : (a : Array) → size_refusal a ≡ None → size_of a ≤ limit
few_enough a none = by (nat_lt limit (size_of a)) refl none
  where
    by : (b : Bool) → nat_lt limit (size_of a) ≡ b → cond b (Some (too_big (size_of a))) None ≡ None → size_of a ≤ limit
    by false is unrefused = grind (arith, nat_tests, is)
    by true is unrefused = absurd (false≢true (sym (ap is_some unrefused)))

text_array : (text : List ℕ) (a : Array) → Spells text a → IsArray a
text_array text Empty is = tt
text_array text (Bounded lower elements) is = spelled_bounds text lower elements is

pub text_held : (text : List ℕ) → text_refusal text ≡ None → IsHeld (array_or_empty (array_of_text text))
text_held text none = by (array_of_text text) refl none
  where
    by : (found : Option Array) → array_of_text text ≡ found → refusal_of_array found ≡ None → IsHeld (array_or_empty found)
    by None is unrefused = absurd (false≢true (sym (ap is_some unrefused)))
    by (Some a) is unrefused = record { array = text_array text a (text_shown text a is); few = few_enough a unrefused }

pub variable_held : (name : List ℕ) (variables : List Variable) → AreHeld variables → IsHeld (array_or_empty (variable_in name variables))
variable_held name [] held = empty_held
variable_held name (v ∷ vs) held = by (bytes_eq v.name name) (All-head HoldsArray v vs held) (variable_held name vs (All-tail HoldsArray v vs held))
  where
    by : (b : Bool) → IsHeld v.array → IsHeld (array_or_empty (variable_in name vs)) → IsHeld (array_or_empty (cond b (Some v.array) (variable_in name vs)))
    by true first rest = first
    by false first rest = rest

pub set_all_held : (name : List ℕ) (a : Array) (variables : List Variable) → AreHeld variables → IsHeld a → AreHeld (variable_set name a variables)
set_all_held name a variables held own =
    All-cons HoldsArray (record { name = name; array = a }) (filter (λ (v : Variable). not (bytes_eq v.name name)) variables) own (All-filter (λ (v : Variable). not (bytes_eq v.name name)) HoldsArray variables held)

-- one literal

array_flat : (kind : ColType) (a : Array) → IsHeld a → AreFlatIn kind (flat_bytes a)
array_flat types.Int8 a held = tt
array_flat types.Oid a held = tt
array_flat types.Lo a held = tt
array_flat types.Bytea a held = tt
array_flat types.Int4Array a held = record { array = a; held = held; bytes_are = refl }

bytes_flat : (kind : ColType) (bytes : List ℕ) → is_bytea kind ≡ true → AreFlatIn kind bytes
bytes_flat types.Int8 bytes is = tt
bytes_flat types.Oid bytes is = tt
bytes_flat types.Lo bytes is = tt
bytes_flat types.Bytea bytes is = tt
bytes_flat types.Int4Array bytes is = absurd (false≢true is)

number_flat : (kind : ColType) (n : ℤ) → number_fits kind n ≡ true → IsFlatValue kind (number_value kind n)
number_flat types.Int8 n is = tt
number_flat types.Oid n is = tt
number_flat types.Lo n is = tt
number_flat types.Bytea n is = absurd (false≢true is)
number_flat types.Int4Array n is = absurd (false≢true is)

module _ (variables : List Variable) (held : AreHeld variables) where
  literal_flat : (c : Column) (literal : Literal) → fits c literal ≡ true → bad_text literal ≡ None → IsFlatValue c.kind (value_of variables c literal)
  literal_flat c Null fit good = tt
  literal_flat c (Number n) fit good = number_flat c.kind n fit
  literal_flat c (Bytes bytes) fit good = bytes_flat c.kind bytes fit
  literal_flat c (ArrayText text) fit good = array_flat c.kind (array_or_empty (array_of_text text)) (text_held text good)
  literal_flat c (VariableNamed name) fit good = array_flat c.kind (array_or_empty (variable_in name variables)) (variable_held name variables held)

  -- all literals of an insert
  pub values_flat : (k : ℕ) (columns : List Column) (literals : List Literal) → length columns ≡ length literals → first_of (all_judged variables k columns literals) ≡ None → AreFlatValues columns (values_of variables columns literals)
  values_flat k [] [] same none = tt
  values_flat k [] (l ∷ ls) same none = absurd (omega (arith, same))
  values_flat k (c ∷ cs) [] same none = absurd (omega (arith, same))
  values_flat k (c ∷ cs) (l ∷ ls) same none =
      let texts : List (Option Refusal) = bad_text l ∷ all_judged variables (k + 1) cs ls in
      let fit = first_none (when (not (fits c l)) WrongType (pos k)) texts (first_none (no_variable variables l) (when (not (fits c l)) WrongType (pos k) ∷ texts) none).1 in
      let good = first_none (bad_text l) (all_judged variables (k + 1) cs ls) fit.1 in
      (literal_flat c l (not_unmet (fits c l) (unmet (not (fits c l)) WrongType (pos k) fit.0)) good.0, values_flat (k + 1) cs ls (omega (arith, same)) good.1)

  -- the changes of an update

  right_not_so : (a b : Bool) → (a || b) ≡ false → b ≡ false
  right_not_so true b is = absurd (true≢false is)
  right_not_so false b is = is

  one_flat : (k : ℕ) (c : Column) (literal : Literal) → first_of (change_judged variables k literal (Some c)) ≡ None → IsFlatValue c.kind (value_of variables c literal)
  one_flat k c literal none =
      let test : Bool = is_id_column c || not (fits c literal) in
      let fit = first_none (when test WrongType (pos k)) (bad_text literal ∷ []) (first_none (no_variable variables literal) (when test WrongType (pos k) ∷ bad_text literal ∷ []) none).1 in
      let good = first_none (bad_text literal) [] fit.1 in
      literal_flat c literal (not_unmet (fits c literal) (right_not_so (is_id_column c) (not (fits c literal)) (unmet (is_id_column c || not (fits c literal)) WrongType (pos k) fit.0))) good.0

  module _ (whole : List Column) where
    abbrev given : List Assign → List Change
    given changes = changes_of variables whole changes

    changed_flat : (k : ℕ) (changes : List Assign) → first_of (changes_judged variables whole k changes) ≡ None → (c : Column) → column_in c.name whole ≡ Some c → (v : Value) → IsFlatValue c.kind v → IsFlatValue c.kind (changed_value (change_of c.name (given changes)) v)
    changed_flat k [] none c found v flat = flat
    changed_flat k (a ∷ changes) none c found v flat = by (bytes_eq a.column c.name) refl (λ rest. changed_flat (k + 1) changes rest c found v flat)
      where
        one : Change
        one = record { column = a.column; value = changed_to variables a.value (column_in a.column whole) }

        by : (b : Bool) → bytes_eq a.column c.name ≡ b → (first_of (changes_judged variables whole (k + 1) changes) ≡ None → IsFlatValue c.kind (changed_value (change_of c.name (given changes)) v)) → IsFlatValue c.kind (changed_value (cond b (Some one) (change_of c.name (given changes))) v)
        by true is rest =
            let name : a.column ≡ c.name = (bytes_eq-Decides a.column c.name).0 is in
            let here : column_in a.column whole ≡ Some c = ap (λ (n : List ℕ). column_in n whole) name ∙ found in
            let first : first_of (change_judged variables k a.value (column_in a.column whole)) ≡ None = front_none (change_judged variables k a.value (column_in a.column whole)) (changes_judged variables whole (k + 1) changes) none in
            subst (λ (o : Option Column). IsFlatValue c.kind (changed_to variables a.value o)) (sym here) (one_flat k c a.value (subst (λ (o : Option Column). first_of (change_judged variables k a.value o) ≡ None) here first))
        by false is rest = rest (rest_none (change_judged variables k a.value (column_in a.column whole)) (changes_judged variables whole (k + 1) changes) none)

    pub changes_flat : (changes : List Assign) → first_of (changes_judged variables whole 1 changes) ≡ None → (columns : List Column) → AreFound whole columns → (row : List Value) → AreFlatValues columns row → AreFlatValues columns (changed_values (given changes) columns row)
    changes_flat changes none [] found [] flat = tt
    changes_flat changes none [] found (v ∷ row) flat = absurd flat
    changes_flat changes none (c ∷ cs) found [] flat = absurd flat
    changes_flat changes none (c ∷ cs) found (v ∷ row) flat = (changed_flat 1 changes none c found.0 v flat.0, changes_flat changes none cs found.1 row flat.1)

-- the array of a row's column

bytes_held : (kind : ColType) (bytes : List ℕ) → is_int4_array kind ≡ true → AreFlatIn kind bytes → IsHeld (array_in bytes)
bytes_held types.Int8 bytes is flat = absurd (false≢true is)
bytes_held types.Oid bytes is flat = absurd (false≢true is)
bytes_held types.Lo bytes is flat = absurd (false≢true is)
bytes_held types.Bytea bytes is flat = absurd (false≢true is)
bytes_held types.Int4Array bytes is flat = subst IsHeld (sym (ap array_in flat.bytes_are ∙ flat_holds flat.array flat.held)) flat.held

value_held : (kind : ColType) (v : Value) → is_int4_array kind ≡ true → IsFlatValue kind v → IsHeld (array_of_value v)
value_held kind values.Null is flat = empty_held
value_held kind (values.Int n) is flat = empty_held
value_held kind (values.Oid o) is flat = empty_held
value_held kind (values.Bytes bytes) is flat = bytes_held kind bytes is flat

pub under_held : (name : List ℕ) (columns : List Column) (row : List Value) → AreFlatValues columns row → first_of (no_array_column (column_in name columns)) ≡ None → IsHeld (array_of_value (value_under name columns row))
under_held name [] row flat none = empty_held
under_held name (c ∷ cs) [] flat none = absurd flat
under_held name (c ∷ cs) (v ∷ row) flat none = by (bytes_eq c.name name) none (under_held name cs row flat.1)
  where
    by : (b : Bool) → first_of (no_array_column (cond b (Some c) (column_in name cs))) ≡ None → (first_of (no_array_column (column_in name cs)) ≡ None → IsHeld (array_of_value (value_under name cs row))) → IsHeld (array_of_value (cond b v (value_under name cs row)))
    by true own rest = value_held c.kind v (not_unmet (is_int4_array c.kind) (unmet (not (is_int4_array c.kind)) WrongType (pos 3) (first_none (when (not (is_int4_array c.kind)) WrongType (pos 3)) [] own).0)) flat.0
    by false other rest = rest other
