-- The rows of requests on array variables. Variables belong to a session, and a rollback leaves them. (Manual, Arrays.)
use Rattle.std.specs.Prelude.{ℕ, ℤ, pos, Bool, true, false, not, List, [], ◌∷◌, ◌++◌, filter, Option, Some, None, is_none, bytes_eq}
use Rattle.expanded_array.specs.Array.{Array, element_at, array_set, excess}
use Rattle.expanded_array.specs.Layout.{array_in}
use Rattle.expanded_array.specs.Read.{array_of_text, text_refusal}
use Rattle.expanded_array.specs.Text.{array_text}
use Rattle.lo_base.specs.declared.column.Column.{Column}
use Rattle.lo_base.specs.declared.refusal.Cause.TheVariants.{NoVariable, NoColumn, WrongType, ArrayTooBig}
use Rattle.lo_base.specs.declared.refusal.Refusal.{Refusal}
use Rattle.lo_base.specs.declared.reply.Reply.{Reply}
use Rattle.lo_base.specs.declared.reply.Reply.TheVariants.{Word, Number, Nothing, Text}
use Rattle.lo_base.specs.declared.reply.Word.TheVariants as words
use Rattle.lo_base.specs.declared.value.Value.{Value}
use Rattle.lo_base.specs.declared.value.Value.TheVariants.{Null, Bytes}
use Rattle.lo_calls.specs.Terms.{when}
use Rattle.row_tables.specs.RowRules.{row_here, values_in, value_under}
use Rattle.row_tables.specs.Terms.{no_row, no_table, refusal}
use Rattle.lo_machine.specs.Row.{Here, Granted, Row, answered, tables_here, with_variables}
use Rattle.lo_machine.specs.State.{Variable, variable_in}
use Rattle.lo_machine.specs.TableRows.{table_columns}
use Rattle.lo_machine.specs.Values.{array_or_empty, column_in, is_int4_array}

-- the variables with one of them new, or another array
abbrev pub variable_set : (name : List ℕ) → Array → List Variable → List Variable
variable_set name array variables =
    record { name = name; array = array } ∷ filter (λ (v : Variable). not (bytes_eq v.name name)) variables

abbrev pub variable_becomes : Here → (name : List ℕ) → Array → Granted
variable_becomes here name array = with_variables here (Word words.Ok) (variable_set name array here.variables)

abbrev pub no_variable_named : Here → (name : List ℕ) → Option Refusal
no_variable_named here name = when (is_none (variable_in name here.variables)) NoVariable (pos 0)

-- a variable's array, the empty one where there is none
abbrev pub array_here : Here → (name : List ℕ) → Array
array_here here name = array_or_empty (variable_in name here.variables)

abbrev pub array_line : (name text : List ℕ) → Here → Row
array_line name text here = record {
  refusals = text_refusal text ∷ [];
  granted = variable_becomes here name (array_or_empty (array_of_text text));
}

-- load: the variable becomes the array of a row's column

abbrev pub loaded : Here → (table : List ℕ) → (id : ℤ) → (column : List ℕ) → Value
loaded here t i column = value_under column (table_columns here t) (values_in (row_here (tables_here here) t i))

abbrev pub is_null : Value → Bool
is_null Null = true
is_null _ = false

abbrev pub no_array_column : Option Column → List (Option Refusal)
no_array_column None = Some (refusal NoColumn (pos 3)) ∷ []
no_array_column (Some c) = when (not (is_int4_array c.kind)) WrongType (pos 3) ∷ []

abbrev pub array_of_value : Value → Array
array_of_value (Bytes bytes) = array_in bytes
array_of_value _ = array_or_empty None

-- the refusals of a column's value that is no array
abbrev pub no_array : (name : List ℕ) → List Column → List Value → List (Option Refusal)
no_array name columns row = no_array_column (column_in name columns) ++ when (is_null (value_under name columns row)) WrongType (pos 3) ∷ []

abbrev pub load_line : (name table : List ℕ) → (id : ℤ) → (column : List ℕ) → Here → Row
load_line name t i column here = record {
  refusals =
      no_table (tables_here here) t
      ∷ no_row (tables_here here) t i
      ∷ no_array column (table_columns here t) (values_in (row_here (tables_here here) t i));
  granted = variable_becomes here name (array_of_value (loaded here t i column));
}

-- set: one element, which may extend the array at either end

abbrev pub too_big_by : Option ℕ → Option Refusal
too_big_by None = None
too_big_by (Some count) = Some (refusal ArrayTooBig (pos count))

abbrev pub set_line : (name : List ℕ) → (sub : ℤ) → Option ℤ → Here → Row
set_line name sub value here = record {
  refusals = no_variable_named here name ∷ too_big_by (excess (array_here here name) sub) ∷ [];
  granted = variable_becomes here name (array_set (array_here here name) sub value);
}

-- elem and show

abbrev pub element_reply : Option ℤ → Reply
element_reply None = Nothing
element_reply (Some n) = Number n

abbrev pub elem_line : (name : List ℕ) → (sub : ℤ) → Here → Row
elem_line name sub here = record {
  refusals = no_variable_named here name ∷ [];
  granted = answered here (element_reply (element_at (array_here here name) sub));
}

abbrev pub show_line : (name : List ℕ) → Here → Row
show_line name here = record {
  refusals = no_variable_named here name ∷ [];
  granted = answered here (Text (array_text (array_here here name)));
}
