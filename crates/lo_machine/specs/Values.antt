-- Values of rows: how the literals of a request are judged against their columns, and the values that they give.
use Rattle.std.specs.Prelude.{ℕ, ℤ, pos, ◌+◌, Bool, true, false, not, List, [], ◌∷◌, ◌++◌, Option, Some, None, is_none, codes, bytes_eq}
use Rattle.std.specs.List.{find}
use Rattle.expanded_array.specs.Array.{Array, Empty}
use Rattle.expanded_array.specs.Flat.{flat_bytes}
use Rattle.expanded_array.specs.Layout.{array_in}
use Rattle.expanded_array.specs.Read.{array_of_text, text_refusal}
use Rattle.expanded_array.specs.Text.{array_text}
use Rattle.lo_base.specs.declared.column.Column.{Column}
use Rattle.lo_base.specs.declared.column.ColType.{ColType}
use Rattle.lo_base.specs.declared.column.ColType.TheVariants as types
use Rattle.lo_base.specs.declared.refusal.Cause.TheVariants.{NoVariable, WrongType}
use Rattle.lo_base.specs.declared.refusal.Refusal.{Refusal}
use Rattle.lo_base.specs.declared.value.Cell.{Cell}
use Rattle.lo_base.specs.declared.value.Cell.TheVariants as cells
use Rattle.lo_base.specs.declared.value.Literal.{Literal}
use Rattle.lo_base.specs.declared.value.Literal.TheVariants.{Null, Number, Bytes, ArrayText, Variable as VariableNamed}
use Rattle.lo_base.specs.declared.value.Value.{Value}
use Rattle.lo_base.specs.declared.value.Value.TheVariants as values
use Rattle.toast_plan.specs.Choice.{outside_of}
use Rattle.toast_plan.specs.Row.{value_lengths}
use Rattle.lo_machine.specs.State.{Variable, variable_in}
use Rattle.lo_calls.specs.Terms.{when, is_outside, count_of}

-- A null fits every column but the one that names the row. A number fits an int8, and an oid in its range; bytes fit a bytea;
-- an array's text and a variable fit an array.

abbrev pub oid_most : ℕ
oid_most = 4294967295

abbrev pub is_id_column : Column → Bool
is_id_column c = bytes_eq c.name (codes "id")

abbrev pub number_fits : ColType → ℤ → Bool
number_fits types.Int8 n = true
number_fits types.Oid n = not (is_outside oid_most n)
number_fits types.Lo n = not (is_outside oid_most n)
number_fits types.Bytea n = false
number_fits types.Int4Array n = false

abbrev pub is_bytea : ColType → Bool
is_bytea types.Bytea = true
is_bytea _ = false

abbrev pub is_int4_array : ColType → Bool
is_int4_array types.Int4Array = true
is_int4_array _ = false

abbrev pub fits : Column → Literal → Bool
fits c Null = not (is_id_column c)
fits c (Number n) = number_fits c.kind n
fits c (Bytes bytes) = is_bytea c.kind
fits c (ArrayText text) = is_int4_array c.kind
fits c (VariableNamed name) = is_int4_array c.kind

-- a variable that is not there
abbrev pub no_variable : List Variable → Literal → Option Refusal
no_variable variables (VariableNamed name) = when (is_none (variable_in name variables)) NoVariable (pos 0)
no_variable variables _ = None

abbrev pub bad_text : Literal → Option Refusal
bad_text (ArrayText text) = text_refusal text
bad_text _ = None

-- A value is judged: its variable, whether it fits, and its text.
abbrev pub judged : List Variable → Column → (subject : ℕ) → Literal → List (Option Refusal)
judged variables c k literal =
    no_variable variables literal ∷ when (not (fits c literal)) WrongType (pos k) ∷ bad_text literal ∷ []

-- values one after the other, counted from a number on
abbrev pub all_judged : List Variable → (from : ℕ) → List Column → List Literal → List (Option Refusal)
all_judged variables k (c ∷ columns) (literal ∷ literals) =
    judged variables c k literal ++ all_judged variables (k + 1) columns literals
all_judged variables k _ _ = []

-- the value that a literal gives a column

abbrev pub array_or_empty : Option Array → Array
array_or_empty None = Empty
array_or_empty (Some array) = array

abbrev pub number_value : ColType → ℤ → Value
number_value types.Int8 n = values.Int n
number_value _ n = values.Oid (count_of n)

abbrev pub value_of : List Variable → Column → Literal → Value
value_of variables c Null = values.Null
value_of variables c (Number n) = number_value c.kind n
value_of variables c (Bytes bytes) = values.Bytes bytes
value_of variables c (ArrayText text) = values.Bytes (flat_bytes (array_or_empty (array_of_text text)))
value_of variables c (VariableNamed name) = values.Bytes (flat_bytes (array_or_empty (variable_in name variables)))

abbrev pub values_of : List Variable → List Column → List Literal → List Value
values_of variables (c ∷ columns) (literal ∷ literals) = value_of variables c literal ∷ values_of variables columns literals
values_of variables _ _ = []

-- the plan of a row: which of its values lie outside it
abbrev pub plan_of : List Column → List Value → List Bool
plan_of columns row = outside_of columns (value_lengths row)

-- the column of a name
abbrev pub column_in : (name : List ℕ) → List Column → Option Column
column_in name columns = find (λ (c : Column). bytes_eq c.name name) columns

-- the cell that a value is answered by: an array by its text
abbrev pub bytes_cell : ColType → List ℕ → Cell
bytes_cell types.Int4Array bytes = cells.Text (array_text (array_in bytes))
bytes_cell _ bytes = cells.Inline bytes

abbrev pub cell_of : Column → Value → Cell
cell_of c values.Null = cells.Null
cell_of c (values.Int n) = cells.Int n
cell_of c (values.Oid o) = cells.Oid o
cell_of c (values.Bytes bytes) = bytes_cell c.kind bytes

abbrev pub cells_of : List Column → List Value → List Cell
cells_of (c ∷ columns) (value ∷ row) = cell_of c value ∷ cells_of columns row
cells_of _ _ = []
