-- The values of a row as requests and replies have them: its id, a column's value, and what changes make of values.
use Rattle.std.specs.Prelude.{◌≡◌, ℕ, ℤ, pos, List, [], ◌∷◌, map, Option, Some, None, bytes_eq}
use Rattle.std.specs.List.{find}
use Rattle.lo_base.specs.declared.column.Column.{Column}
use Rattle.lo_base.specs.declared.value.Value.{Value}
use Rattle.lo_base.specs.declared.value.Value.TheVariants as values
use Rattle.lo_base.specs.declared.value.Cell.{Cell}
use Rattle.lo_base.specs.declared.value.Cell.TheVariants as cells
use Rattle.row_tables.specs.declared.change.Change.{Change}

-- the id that stands in front of a row's values
abbrev pub id_in : Value → ℤ
id_in values.Null = pos 0
id_in (values.Int n) = n
id_in (values.Oid n) = pos 0
id_in (values.Bytes bytes) = pos 0

abbrev pub id_of : List Value → ℤ
id_of [] = pos 0
id_of (v ∷ vs) = id_in v

-- an id stands in front of the values
abbrev pub HasId : (id : ℤ) → List Value → Type 0
HasId i [] = ⊥
HasId i (v ∷ vs) = v ≡ values.Int i

-- a value in its row, and as a reply has it
abbrev pub cell_of : Value → Cell
cell_of values.Null = cells.Null
cell_of (values.Int n) = cells.Int n
cell_of (values.Oid n) = cells.Oid n
cell_of (values.Bytes bytes) = cells.Inline bytes

abbrev pub cells_of : List Value → List Cell
cells_of vs = map cell_of vs

-- the change of a column, if there is one
abbrev pub change_of : (column : List ℕ) → List Change → Option Change
change_of name changes = find (λ (c : Change). bytes_eq c.column name) changes

abbrev pub changed_value : Option Change → Value → Value
changed_value None v = v
changed_value (Some c) v = c.value

-- the values with those of some columns changed
abbrev pub changed_values : List Change → List Column → List Value → List Value
changed_values changes [] vs = []
changed_values changes (c ∷ cs) [] = []
changed_values changes (c ∷ cs) (v ∷ vs) = changed_value (change_of c.name changes) v ∷ changed_values changes cs vs
