-- Cells of a row as it is kept. A value outside stands as its length and number; what its bytes are, when it was moved out
-- and of which row is told beside, since the row does not say it.
use Rattle.std.specs.Prelude.{◌≡◌, ◌<◌, ℕ, ◌+◌, Bool, true, false, not, ◌==◌, List, [], ◌∷◌, ◌++◌, length, map, filter, Option, Some, None, if◌then◌else◌}
use Rattle.std.specs.List.{list_any}
use Rattle.lo_base.specs.declared.column.Column.{Column}
use Rattle.lo_base.specs.declared.value.Value.{Value}
use Rattle.lo_base.specs.declared.value.Value.TheVariants as values
use Rattle.lo_base.specs.declared.value.Cell.{Cell}
use Rattle.lo_base.specs.declared.value.Cell.TheVariants as cells
use Rattle.row_versions.specs.Count.{Different}
use Rattle.row_versions.specs.Stack.{Each}
use Rattle.toast_plan.specs.Row.{FitColumns}
use Rattle.row_tables.specs.declared.change.Change.{Change}
use Rattle.row_tables.specs.declared.row_key.RowKey.{RowKey}
use Rattle.row_tables.specs.Values.{HasId, cell_of, change_of}

-- what is told of a value outside: its bytes, the clock at which it was moved out, and the row that it is of
pub record Told : Type 0 where
  pub bytes : List ℕ
  pub moved : ℕ
  pub home : RowKey

abbrev pub value_told : (ℕ → Told) → Cell → Value
value_told told cells.Null = values.Null
value_told told (cells.Int n) = values.Int n
value_told told (cells.Oid n) = values.Oid n
value_told told (cells.Inline bytes) = values.Bytes bytes
value_told told (cells.Text bytes) = values.Bytes bytes
value_told told (cells.Outside l n) = values.Bytes (told n).bytes

abbrev pub moved_at : (ℕ → Told) → Cell → Option ℕ
moved_at told cells.Null = None
moved_at told (cells.Int n) = None
moved_at told (cells.Oid n) = None
moved_at told (cells.Inline bytes) = None
moved_at told (cells.Text bytes) = None
moved_at told (cells.Outside l n) = Some (told n).moved

-- the values that a row stands for, and when each was moved out
abbrev pub values_told : (ℕ → Told) → List Cell → List Value
values_told told row = map (value_told told) row

abbrev pub stored_told : (ℕ → Told) → List Cell → List (Option ℕ)
stored_told told row = map (moved_at told) row

-- the number of a value outside, and the numbers of a row's values outside

abbrev pub number_of : Cell → List ℕ
number_of cells.Null = []
number_of (cells.Int n) = []
number_of (cells.Oid n) = []
number_of (cells.Inline bytes) = []
number_of (cells.Text bytes) = []
number_of (cells.Outside l n) = n ∷ []

abbrev pub numbers_in : List Cell → List ℕ
numbers_in [] = []
numbers_in (c ∷ cs) = number_of c ++ numbers_in cs

abbrev pub is_among : List ℕ → (number : ℕ) → Bool
is_among numbers n = list_any (λ m. m == n) numbers

abbrev pub has_number : List Cell → (number : ℕ) → Bool
has_number row n = is_among (numbers_in row) n

-- the length of a cell's value
abbrev pub cell_length : Cell → Option ℕ
cell_length cells.Null = None
cell_length (cells.Int n) = Some 8
cell_length (cells.Oid n) = Some 4
cell_length (cells.Inline bytes) = Some (length bytes)
cell_length (cells.Text bytes) = Some (length bytes)
cell_length (cells.Outside l n) = Some l

abbrev pub cell_lengths : List Cell → List (Option ℕ)
cell_lengths row = map cell_length row

-- a cell of a row: no text, and where it is outside, with a number below the next one, and with the told length and row
abbrev pub IsCell : (ℕ → Told) → RowKey → (next : ℕ) → Cell → Type 0
IsCell told key next cells.Null = Unit {0}
IsCell told key next (cells.Int n) = Unit {0}
IsCell told key next (cells.Oid n) = Unit {0}
IsCell told key next (cells.Inline bytes) = Unit {0}
IsCell told key next (cells.Text bytes) = ⊥
IsCell told key next (cells.Outside l n) = (l ≡ length (told n).bytes) × ((told n).home ≡ key) × (n < next)

-- a row's cells: its id in front, one for each column, and no number twice
pub record AreCells (told : ℕ → Told) (key : RowKey) (next : ℕ) (columns : List Column) (row : List Cell) : Type 0 where
  pub each : Each (IsCell told key next) row
  pub once : Different (numbers_in row)
  pub fit : FitColumns columns (values_told told row)
  pub id : HasId key.id (values_told told row)

-- What an update makes of cells: a column that it names has the value in the row, and every other one its cell.

abbrev pub changed_cell : Option Change → Cell → Cell
changed_cell None cell = cell
changed_cell (Some c) cell = cell_of c.value

abbrev pub changed_cells : List Change → List Column → List Cell → List Cell
changed_cells changes [] row = []
changed_cells changes (c ∷ cs) [] = []
changed_cells changes (c ∷ cs) (cell ∷ row) = changed_cell (change_of c.name changes) cell ∷ changed_cells changes cs row

-- What is brought in: a value outside that is to be in the row, with its bytes.

abbrev pub brought : (ℕ → Told) → (outside : Bool) → Cell → Cell
brought told true cell = cell
brought told false cells.Null = cells.Null
brought told false (cells.Int n) = cells.Int n
brought told false (cells.Oid n) = cells.Oid n
brought told false (cells.Inline bytes) = cells.Inline bytes
brought told false (cells.Text bytes) = cells.Text bytes
brought told false (cells.Outside l n) = cells.Inline (told n).bytes

abbrev pub all_brought : (ℕ → Told) → (outside : List Bool) → List Cell → List Cell
all_brought told [] row = row
all_brought told (o ∷ os) [] = []
all_brought told (o ∷ os) (c ∷ cs) = brought told o c ∷ all_brought told os cs

-- a row with all of its values
abbrev pub whole_row : (ℕ → Told) → List Cell → List Cell
whole_row told row = map (brought told false) row

-- What is moved out: a value in the row that is to be outside, under the next number.

pub record Moved : Type 0 where
  pub number : ℕ
  pub bytes : List ℕ

abbrev pub settled : (outside : Bool) → Cell → (number : ℕ) → Cell
settled false cell n = cell
settled true cells.Null n = cells.Null
settled true (cells.Int z) n = cells.Int z
settled true (cells.Oid o) n = cells.Oid o
settled true (cells.Inline bytes) n = cells.Outside (length bytes) n
settled true (cells.Text bytes) n = cells.Text bytes
settled true (cells.Outside l m) n = cells.Outside l m

abbrev pub moved_out_of : (outside : Bool) → Cell → (number : ℕ) → List Moved
moved_out_of false cell n = []
moved_out_of true cells.Null n = []
moved_out_of true (cells.Int z) n = []
moved_out_of true (cells.Oid o) n = []
moved_out_of true (cells.Inline bytes) n = record { number = n; bytes = bytes } ∷ []
moved_out_of true (cells.Text bytes) n = []
moved_out_of true (cells.Outside l m) n = []

abbrev pub next_after : (outside : Bool) → Cell → (number : ℕ) → ℕ
next_after o cell n = n + length (moved_out_of o cell n)

abbrev pub all_settled : (outside : List Bool) → List Cell → (first : ℕ) → List Cell
all_settled [] row n = row
all_settled (o ∷ os) [] n = []
all_settled (o ∷ os) (c ∷ cs) n = settled o c n ∷ all_settled os cs (next_after o c n)

abbrev pub all_moved : (outside : List Bool) → List Cell → (first : ℕ) → List Moved
all_moved [] row n = []
all_moved (o ∷ os) [] n = []
all_moved (o ∷ os) (c ∷ cs) n = moved_out_of o c n ++ all_moved os cs (next_after o c n)

abbrev pub has_moved : List Moved → (number : ℕ) → Bool
has_moved moved n = list_any (λ (m : Moved). m.number == n) moved

-- what is told of a number once some values of a row were moved out at a clock
abbrev pub told_with : (clock : ℕ) → RowKey → List Moved → (ℕ → Told) → (number : ℕ) → Told
told_with clock key [] told n = told n
told_with clock key (m ∷ ms) told n =
    if m.number == n then record { bytes = m.bytes; moved = clock; home = key } else told_with clock key ms told n

-- the numbers of a row that another one has not
abbrev pub dropped : (old new : List Cell) → List ℕ
dropped old new = filter (λ n. not (has_number new n)) (numbers_in old)
