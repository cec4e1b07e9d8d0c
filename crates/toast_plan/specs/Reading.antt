-- Reading a row from the left: what stands at the front of some bytes, and the bytes behind it.
use Rattle.std.specs.Prelude.{◌≡◌, ◌≢◌, ℕ, ◌≤◌, ◌==◌, Bool, true, false, ◌&&◌, ◌||◌, nat_lt, nat_le, if◌then◌else◌, bytes_eq, List, [], ◌∷◌, ◌++◌, length, map, take, drop, Option, Some, None, option_map, Result, Ok, Err}
use Rattle.std.specs.Int.{Width, w32, w64, byte_len, from_le_bytes, cast_signed}
use Rattle.lo_base.specs.declared.column.Column.{Column}
use Rattle.lo_base.specs.declared.column.ColType.{ColType}
use Rattle.lo_base.specs.declared.column.ColType.TheVariants as types
use Rattle.lo_base.specs.declared.value.Cell.{Cell}
use Rattle.lo_base.specs.declared.value.Cell.TheVariants as cells
use Rattle.toast_plan.specs.declared.reading.Stop.{Stop}
use Rattle.toast_plan.specs.declared.reading.Stop.TheVariants as stops
use Rattle.toast_plan.specs.declared.pointer.Pointer.{Pointer}
use Rattle.toast_plan.specs.Layout.{up_to_8}
use Rattle.toast_plan.specs.Choice.{outside_of, planned_length}
use Rattle.toast_plan.specs.Pointer.{pointer_form}
use Rattle.toast_plan.specs.Row.{Field, row_form, IsRow, cell_of}
use Rattle.toast_plan.specs.declared.reading.ReadRow.{ReadRow}

infixl 10 ◌>>=◌
abbrev pub ◌>>=◌ : {A B : Type 0} → Option A → (A → Option B) → Option B
None >>= f = None
(Some x) >>= f = f x

-- what a function returned, seen by `view`, is what reading gives, unless there was no memory
abbrev pub Gives : {X Y : Type 0} → (X → Y) → Result X Stop → Option Y → Type 0
Gives view (Ok x) read = read ≡ Some (view x)
Gives view (Err stops.NoRow) read = read ≡ None
Gives view (Err stops.NoMemory) read = Unit {0}

abbrev pub number_front : Width → List ℕ → Option (ℕ × List ℕ)
number_front w bytes = if nat_lt (length bytes) (byte_len w) then None else Some (from_le_bytes w (take (byte_len w) bytes), drop (byte_len w) bytes)

abbrev pub int_front : List ℕ → Option (Cell × List ℕ)
int_front bytes = number_front w64 bytes >>= λ n. Some (cells.Int (cast_signed w64 n.0), n.1)

abbrev pub oid_front : List ℕ → Option (Cell × List ℕ)
oid_front bytes = number_front w32 bytes >>= λ n. Some (cells.Oid n.0, n.1)

abbrev pub piece_front : ℕ → List ℕ → Option (Cell × List ℕ)
piece_front n bytes = if nat_lt 16777216 n || nat_lt (length bytes) n then None else Some (cells.Inline (take n bytes), drop n bytes)

abbrev pub inline_front : List ℕ → Option (Cell × List ℕ)
inline_front bytes = number_front w32 bytes >>= λ n. piece_front n.0 n.1

-- the numbers of a pointer, were the bytes one
abbrev pub pointer_numbers : List ℕ → Pointer
pointer_numbers bytes = record { length = from_le_bytes w32 (take 4 (drop 6 bytes)); value = from_le_bytes w32 (take 4 (drop 10 bytes)); table = from_le_bytes w32 (take 4 (drop 14 bytes)) }

abbrev pub is_pointer : List ℕ → Pointer → Bool
is_pointer bytes p = nat_le p.length 16777216 && bytes_eq bytes (pointer_form p)

abbrev pub outside_front : List ℕ → Option (Cell × List ℕ)
outside_front bytes =
    let p = pointer_numbers (take 18 bytes) in
    if is_pointer (take 18 bytes) p then Some (cells.Outside p.length p.value, drop 18 bytes) else None

-- behind the tag of a value in the row, and of one outside
abbrev pub value_front : ColType → List ℕ → Option (Cell × List ℕ)
value_front types.Int8 bytes = int_front bytes
value_front types.Oid bytes = oid_front bytes
value_front types.Lo bytes = oid_front bytes
value_front types.Bytea bytes = inline_front bytes
value_front types.Int4Array bytes = inline_front bytes

abbrev pub moved_front : ColType → List ℕ → Option (Cell × List ℕ)
moved_front types.Int8 bytes = None
moved_front types.Oid bytes = None
moved_front types.Lo bytes = None
moved_front types.Bytea bytes = outside_front bytes
moved_front types.Int4Array bytes = outside_front bytes

abbrev pub tagged_front : ColType → ℕ → List ℕ → Option (Cell × List ℕ)
tagged_front kind tag bytes = if tag == 0 then Some (cells.Null, bytes) else (if tag == 1 then value_front kind bytes else (if tag == 2 then moved_front kind bytes else None))

abbrev pub cell_front : ColType → List ℕ → Option (Cell × List ℕ)
cell_front kind [] = None
cell_front kind (tag ∷ bytes) = tagged_front kind tag bytes

abbrev pub cells_front : List Column → List ℕ → Option (List Cell × List ℕ)
cells_front [] bytes = Some ([], bytes)
cells_front (c ∷ cs) bytes = cell_front c.kind bytes >>= λ first. cells_front cs first.1 >>= λ others. Some (first.0 ∷ others.0, others.1)

-- cells that were read before those in front
abbrev pub behind : List Cell → Option (List Cell × List ℕ) → Option (List Cell × List ℕ)
behind front read = option_map (λ x. (front ++ x.0, x.1)) read

-- ---- what is judged of cells

abbrev pub cell_length : Cell → Option ℕ
cell_length cells.Null = None
cell_length (cells.Int z) = Some 8
cell_length (cells.Oid n) = Some 4
cell_length (cells.Inline bytes) = Some (length bytes)
cell_length (cells.Text bytes) = None
cell_length (cells.Outside n value) = Some n

abbrev pub cell_lengths : List Cell → List (Option ℕ)
cell_lengths found = map cell_length found

abbrev pub is_cell_outside : Cell → Bool
is_cell_outside cells.Null = false
is_cell_outside (cells.Int z) = false
is_cell_outside (cells.Oid n) = false
is_cell_outside (cells.Inline bytes) = false
is_cell_outside (cells.Text bytes) = false
is_cell_outside (cells.Outside n value) = true

abbrev pub is_cell_null : Cell → Bool
is_cell_null cells.Null = true
is_cell_null (cells.Int z) = false
is_cell_null (cells.Oid n) = false
is_cell_null (cells.Inline bytes) = false
is_cell_null (cells.Text bytes) = false
is_cell_null (cells.Outside n value) = false

abbrev pub StartsWithCell : List Cell → Type 0
StartsWithCell [] = ⊥
StartsWithCell (c ∷ cs) = is_cell_null c ≡ false

-- the cells outside are those that the plan moves, and the row is not too big
pub record ArePlanned (columns : List Column) (found : List Cell) : Type 0 where
  pub outside : map is_cell_outside found ≡ outside_of columns (cell_lengths found)
  pub fits : up_to_8 (planned_length columns (cell_lengths found)) ≤ 8160

pub record AreRowCells (columns : List Column) (found : List Cell) : Type 0 where
  pub id : StartsWithCell found
  pub planned : ArePlanned columns found

-- a row that was read: its cells, and the number of its bytes at the front
pub record ReadsRow (columns : List Column) (bytes : List ℕ) (r : ReadRow) : Type 0 where
  pub fields : List Field
  pub row : IsRow columns fields
  pub form : take r.taken bytes ≡ row_form fields
  pub taken : r.taken ≡ length (row_form fields)
  pub cells : r.cells ≡ map cell_of fields

-- no row stands at the front
abbrev pub HasNoRow : List Column → List ℕ → Type 0
HasNoRow columns bytes = (fields : List Field) (rest : List ℕ) → IsRow columns fields → bytes ≢ row_form fields ++ rest

-- the cells of the fields and the number of their bytes
abbrev pub row_of : List Field → ReadRow
row_of fields = record { cells = map cell_of fields; taken = length (row_form fields) }
