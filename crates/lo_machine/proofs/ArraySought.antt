-- The array of a row's column, looked for from the front.
use Rattle.std.proofs.Common.{◌≡◌, ℕ, pos, Bool, true, false, cond, List, [], ◌∷◌, ◌++◌, drop, Some, None, refl, ap, ap₂, sym, subst, ◌∙◌}
use Rattle.std.specs.Prelude.{bytes_eq, slice_get, not}
use Rattle.std.specs.Option.{is_some, unwrap_or}
use Rattle.std.proofs.lemmas.Bool.{false≢true}
use Rattle.expanded_array.specs.Array.{Array}
use Rattle.expanded_array.specs.Layout.{array_in}
use Rattle.lo_base.specs.declared.column.Column.{Column}
use Rattle.lo_base.specs.declared.column.ColType.{ColType}
use Rattle.lo_base.specs.declared.column.ColType.TheVariants as types
use Rattle.lo_base.specs.declared.refusal.Cause.TheVariants.{NoColumn, WrongType}
use Rattle.lo_base.specs.declared.value.Cell.{Cell}
use Rattle.lo_base.specs.declared.value.Value.{Value}
use Rattle.lo_base.specs.declared.value.Value.TheVariants.{Null, Int, Oid, Bytes}
use Rattle.lo_calls.specs.Terms.{when}
use Rattle.lo_pages.specs.Outcome.{first_of}
use Rattle.row_tables.specs.RowRules.{value_under}
use Rattle.row_tables.specs.Terms.{refusal}
use Rattle.row_tables.specs.Values as rows
use Rattle.lo_machine.specs.ArrayRows.{array_of_value, is_null, no_array, no_array_column}
use Rattle.lo_machine.specs.FlatRows.{AreFlatCells, HasNoArrays, IsFlatCell, array_bytes, array_cell}
use Rattle.lo_machine.specs.Literals.{IsArrayOf}
use Rattle.lo_machine.specs.Values.{column_in, is_int4_array}

-- ---- one cell

array_kind : (kind : ColType) (bytes : List ℕ) (a : Array) → array_bytes kind bytes ≡ Some a → (is_int4_array kind ≡ true) × (a ≡ array_in bytes)
array_kind types.Int8 bytes a e = absurd (false≢true (ap is_some e))
array_kind types.Oid bytes a e = absurd (false≢true (ap is_some e))
array_kind types.Lo bytes a e = absurd (false≢true (ap is_some e))
array_kind types.Bytea bytes a e = absurd (false≢true (ap is_some e))
array_kind types.Int4Array bytes a e = (refl, ap (λ o. unwrap_or o a) (sym e))

other_kind : (kind : ColType) (bytes : List ℕ) → array_bytes kind bytes ≡ None → is_int4_array kind ≡ false
other_kind types.Int8 bytes e = refl
other_kind types.Oid bytes e = refl
other_kind types.Lo bytes e = refl
other_kind types.Bytea bytes e = refl
other_kind types.Int4Array bytes e = absurd (false≢true (sym (ap is_some e)))

no_arrays : (kind : ColType) → HasNoArrays kind → is_int4_array kind ≡ false
no_arrays types.Int8 h = refl
no_arrays types.Oid h = refl
no_arrays types.Lo h = refl
no_arrays types.Bytea h = refl
no_arrays types.Int4Array h = absurd h

-- the terms of a column's value that is an array, or none
record HasArray (kind : ColType) (v : Value) (a : Array) : Type 0 where
  unrefused : first_of (when (not (is_int4_array kind)) WrongType (pos 3) ∷ when (is_null v) WrongType (pos 3) ∷ []) ≡ None
  is : a ≡ array_of_value v

has_array : (kind : ColType) (v : Value) (a : Array) → array_cell kind (rows.cell_of v) ≡ Some a → HasArray kind v a
has_array kind Null a e = absurd (false≢true (ap is_some e))
has_array kind (Int n) a e = absurd (false≢true (ap is_some e))
has_array kind (Oid o) a e = absurd (false≢true (ap is_some e))
has_array kind (Bytes bytes) a e = let k = array_kind kind bytes a e in record { unrefused = rw k.0 refl; is = k.1 }

other_refused : (kind : ColType) (v : Value) → is_int4_array kind ≡ false → first_of (when (not (is_int4_array kind)) WrongType (pos 3) ∷ when (is_null v) WrongType (pos 3) ∷ []) ≡ Some (refusal WrongType (pos 3))
other_refused kind v e = rw e refl

null_refused : (b : Bool) → first_of (when (not b) WrongType (pos 3) ∷ when true WrongType (pos 3) ∷ []) ≡ Some (refusal WrongType (pos 3))
null_refused true = refl
null_refused false = refl

has_none : (kind : ColType) (v : Value) → IsFlatCell kind (rows.cell_of v) → array_cell kind (rows.cell_of v) ≡ None → first_of (when (not (is_int4_array kind)) WrongType (pos 3) ∷ when (is_null v) WrongType (pos 3) ∷ []) ≡ Some (refusal WrongType (pos 3))
has_none kind Null flat e = null_refused (is_int4_array kind)
has_none kind (Int n) flat e = other_refused kind (Int n) (no_arrays kind flat)
has_none kind (Oid o) flat e = other_refused kind (Oid o) (no_arrays kind flat)
has_none kind (Bytes bytes) flat e = other_refused kind (Bytes bytes) (other_kind kind bytes e)

-- ---- the columns and cells that are left

pub record Rest (name : List ℕ) (columns : List Column) (values : List Value) (left : List Column) (items : List Cell) : Type 0 where
  pub rest : List Value
  pub is : items ≡ rows.cells_of rest
  pub under : value_under name left rest ≡ value_under name columns values

pub record Seeks (name : List ℕ) (columns : List Column) (row : List Cell) (left : List Column) (items : List Cell) : Type 0 where
  pub flat : AreFlatCells left items
  pub column : column_in name left ≡ column_in name columns
  pub value : (values : List Value) → row ≡ rows.cells_of values → Rest name columns values left items

pub seeks_first : (name : List ℕ) (columns : List Column) (row : List Cell) → AreFlatCells columns row → Seeks name columns row columns row
seeks_first name columns row flat = record { flat = flat; column = refl; value = λ values is. record { rest = values; is = is; under = refl } }

-- the first value that is left
record First (name : List ℕ) (columns : List Column) (values : List Value) (c : Column) (left : List Column) (cell : Cell) (items : List Cell) : Type 0 where
  value : Value
  behind : List Value
  here : cell ≡ rows.cell_of value
  more : items ≡ rows.cells_of behind
  under : value_under name (c ∷ left) (value ∷ behind) ≡ value_under name columns values

first_left : (name : List ℕ) (columns : List Column) (values : List Value) (c : Column) (left : List Column) (cell : Cell) (items : List Cell) (rest : List Value) → cell ∷ items ≡ rows.cells_of rest → value_under name (c ∷ left) rest ≡ value_under name columns values → First name columns values c left cell items
first_left name columns values c left cell items [] is under = absurd (false≢true (sym (ap is_cons is)))
  where
    is_cons : List Cell → Bool
    is_cons [] = false
    is_cons (x ∷ xs) = true
first_left name columns values c left cell items (v ∷ rest) is under = record {
  value = v;
  behind = rest;
  here = ap (λ (xs : List Cell). unwrap_or (slice_get xs 0) cell) is;
  more = ap (λ (xs : List Cell). drop 1 xs) is;
  under = under;
}

module _ (name : List ℕ) (columns : List Column) (row : List Cell) (c : Column) (left : List Column) (cell : Cell) (items : List Cell) (h : Seeks name columns row (c ∷ left) (cell ∷ items)) where
  first_of_row : (values : List Value) → row ≡ rows.cells_of values → First name columns values c left cell items
  first_of_row values is = let r = h.value values is in first_left name columns values c left cell items r.rest r.is r.under

  seeks_behind : bytes_eq c.name name ≡ false → Seeks name columns row left items
  seeks_behind other = record {
    flat = h.flat.1;
    column = sym (ap (λ b. cond b (Some c) (column_in name left)) other) ∙ h.column;
    value = λ values is. let f = first_of_row values is in record {
      rest = f.behind;
      is = f.more;
      under = sym (ap (λ b. cond b f.value (value_under name left f.behind)) other) ∙ f.under;
    };
  }

  module _ (same : bytes_eq c.name name ≡ true) where
    column_is : column_in name columns ≡ Some c
    column_is = sym h.column ∙ ap (λ b. cond b (Some c) (column_in name left)) same

    value_is : (values : List Value) (f : First name columns values c left cell items) → value_under name columns values ≡ f.value
    value_is values f = sym f.under ∙ ap (λ b. cond b f.value (value_under name left f.behind)) same

    judged_so : (values : List Value) (f : First name columns values c left cell items) → first_of (no_array name columns values) ≡ first_of (when (not (is_int4_array c.kind)) WrongType (pos 3) ∷ when (is_null f.value) WrongType (pos 3) ∷ [])
    judged_so values f = ap₂ (λ o u. first_of (no_array_column o ++ when (is_null u) WrongType (pos 3) ∷ [])) column_is (value_is values f)

    array_found : (a : Array) → array_cell c.kind cell ≡ Some a → (values : List Value) → row ≡ rows.cells_of values → IsArrayOf name columns values a
    array_found a e values is =
        let f = first_of_row values is in
        let k = has_array c.kind f.value a (sym (ap (array_cell c.kind) f.here) ∙ e) in
        record { unrefused = judged_so values f ∙ k.unrefused; is = k.is ∙ sym (ap array_of_value (value_is values f)) }

    none_found : array_cell c.kind cell ≡ None → (values : List Value) → row ≡ rows.cells_of values → first_of (no_array name columns values) ≡ Some (refusal WrongType (pos 3))
    none_found e values is =
        let f = first_of_row values is in
        judged_so values f ∙ has_none c.kind f.value (subst (IsFlatCell c.kind) f.here h.flat.0) (sym (ap (array_cell c.kind) f.here) ∙ e)

-- ---- by the first column that is left

module _ (name : List ℕ) (columns : List Column) (row : List Cell) (cell : Cell) (items : List Cell) (c : Column) where
  pub seeks_next : (left : List Column) → slice_get left 0 ≡ Some c → Seeks name columns row left (cell ∷ items) → bytes_eq c.name name ≡ false → Seeks name columns row (drop 1 left) items
  seeks_next [] there h other = absurd h.flat
  seeks_next (x ∷ left) there h other = seeks_behind name columns row x left cell items h (ap (λ (k : Column). bytes_eq k.name name) (ap (λ o. unwrap_or o x) there) ∙ other)

  pub array_here : (left : List Column) → slice_get left 0 ≡ Some c → Seeks name columns row left (cell ∷ items) → bytes_eq c.name name ≡ true → (a : Array) → array_cell c.kind cell ≡ Some a → (values : List Value) → row ≡ rows.cells_of values → IsArrayOf name columns values a
  array_here [] there h same a e = absurd h.flat
  array_here (x ∷ left) there h same a e =
      let one : x ≡ c = ap (λ o. unwrap_or o x) there in
      array_found name columns row x left cell items h (ap (λ (k : Column). bytes_eq k.name name) one ∙ same) a (ap (λ (k : Column). array_cell k.kind cell) one ∙ e)

  pub none_here : (left : List Column) → slice_get left 0 ≡ Some c → Seeks name columns row left (cell ∷ items) → bytes_eq c.name name ≡ true → array_cell c.kind cell ≡ None → (values : List Value) → row ≡ rows.cells_of values → first_of (no_array name columns values) ≡ Some (refusal WrongType (pos 3))
  none_here [] there h same e = absurd h.flat
  none_here (x ∷ left) there h same e =
      let one : x ≡ c = ap (λ o. unwrap_or o x) there in
      none_found name columns row x left cell items h (ap (λ (k : Column). bytes_eq k.name name) one ∙ same) (ap (λ (k : Column). array_cell k.kind cell) one ∙ e)

pub none_left : (name : List ℕ) (columns : List Column) (row : List Cell) (left : List Column) → Seeks name columns row left [] → (values : List Value) → first_of (no_array name columns values) ≡ Some (refusal NoColumn (pos 3))
none_left name columns row [] h values = ap (λ o. first_of (no_array_column o ++ when (is_null (value_under name columns values)) WrongType (pos 3) ∷ [])) (sym h.column)
none_left name columns row (c ∷ left) h values = absurd h.flat
