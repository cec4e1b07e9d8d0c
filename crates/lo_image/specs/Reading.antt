-- The fields of an image in their order, and what can be wrong with each.
use Rattle.std.specs.Prelude.{◌≡◌, ℕ, ℤ, pos, zero, suc, ◌+◌, ◌*◌, ◌-◌, ◌^◌, min, nat_lt, nat_le, Bool, true, false, ◌==◌, ◌&&◌, ◌||◌, not, bytes_eq, codes, map, if◌then◌else◌, List, [], ◌∷◌, ◌++◌, length, drop, Option, Some, None, Result, Ok, Err}
use Rattle.std.specs.Int.{w16, w32, w64, cast_signed}
use Rattle.std.specs.List.{list_all}
use Rattle.std.specs.declared.cmp.Ordering.{Ordering}
use Rattle.std.specs.declared.cmp.Ordering.TheVariants as orders
use Rattle.std.specs.Ordering.{nat_cmp}
use Rattle.std.specs.Cmp.Lexicographic.{slice_cmp}
use Rattle.lo_base.specs.Name.{starts_name, continues_name}
use Rattle.lo_base.specs.declared.column.Column.{Column}
use Rattle.lo_base.specs.declared.column.ColType.{ColType}
use Rattle.lo_base.specs.declared.column.ColType.TheVariants as types
use Rattle.lo_base.specs.declared.column.Storage.{Storage}
use Rattle.lo_base.specs.declared.column.Storage.TheVariants as storages
use Rattle.lo_base.specs.declared.value.Value.{Value}
use Rattle.lo_base.specs.declared.value.Value.TheVariants as values
use Rattle.lo_base.specs.declared.value.Cell.{Cell}
use Rattle.lo_base.specs.declared.value.Cell.TheVariants as cells
use Rattle.lo_model.specs.Held.{chunk_bytes, pieces}
use Rattle.lo_model.specs.Touch.{page_bytes}
use Rattle.toast_plan.specs.Layout.{up_to_8}
use Rattle.toast_plan.specs.Choice.{outside_of, planned_length}
use Rattle.toast_plan.specs.Reading.{cell_lengths, is_cell_outside}
use Rattle.expanded_array.specs.Layout.{is_flat_layout}
use Rattle.lo_image.specs.declared.fault.Defect.{Defect}
use Rattle.lo_image.specs.declared.fault.Defect.TheVariants.{Magic, Short, Range, Order, Mismatch, Plan, Array, Extra}
use Rattle.lo_image.specs.declared.fault.Fault.{Fault}
use Rattle.lo_image.specs.declared.fault.BadImage.{BadImage}
use Rattle.lo_image.specs.declared.fault.ImageError.{ImageError}
use Rattle.lo_image.specs.declared.fault.ImageError.TheVariants as errors
use Rattle.lo_image.specs.declared.place.BlockPlace.{BlockPlace}
use Rattle.lo_image.specs.declared.place.ObjectPlace.{ObjectPlace}
use Rattle.lo_image.specs.declared.place.RowPlace.{RowPlace}
use Rattle.lo_image.specs.declared.place.ChunkPlace.{ChunkPlace}
use Rattle.lo_image.specs.declared.place.TableCells.{TableCells}
use Rattle.lo_opening.specs.declared.opening.ObjectData.{ObjectData}
use Rattle.lo_opening.specs.declared.opening.TableData.{TableData}
use Rattle.lo_opening.specs.Opening.{OpeningData, block_length, blocks_below, blocks_held, all_zero, id_follows}
use Rattle.lo_image.specs.Image.{magic}
use Rattle.lo_image.specs.Readers.{◌>>=◌, fails, piece, number, tested, fixed, fixed_piece, behind, both, made, many, each}

-- ---- bytes and names

abbrev pub byte_at : List ℕ → Result (ℕ × List ℕ) Fault
byte_at [] = fails Short []
byte_at (b ∷ rest) = Ok (b, rest)

-- one byte with a length, and so many bytes: one field
abbrev pub counted_at : List ℕ → Result (List ℕ × List ℕ) Fault
counted_at bytes = byte_at bytes >>= λ x. if nat_lt (length x.1) x.0 then fails Short bytes else piece x.0 x.1

-- as IsName says
abbrev pub is_name : List ℕ → Bool
is_name [] = false
is_name (first ∷ others) = starts_name first && (list_all continues_name others && nat_le (length others) 62)

abbrev pub is_less : Ordering → Bool
is_less orders.Less = true
is_less orders.Equal = false
is_less orders.Greater = false

abbrev pub name_follows : Option (List ℕ) → List ℕ → Bool
name_follows None name = true
name_follows (Some last) name = is_less (slice_cmp nat_cmp last name)

abbrev pub table_name_defect : Option (List ℕ) → List ℕ → Option Defect
table_name_defect last name = if is_name name then (if name_follows last name then None else Some Order) else Some Range

-- ---- columns

abbrev pub has_name : List Column → List ℕ → Bool
has_name [] name = false
has_name (c ∷ cs) name = bytes_eq c.name name || has_name cs name

abbrev pub new_name_defect : List Column → List ℕ → Option Defect
new_name_defect [] name = if bytes_eq name (codes "id") then None else Some Range
new_name_defect (c ∷ cs) name = if has_name (c ∷ cs) name then Some Order else None

abbrev pub column_name_defect : List Column → List ℕ → Option Defect
column_name_defect before name = if is_name name then new_name_defect before name else Some Range

-- the first column is of type 1
abbrev pub most_kind : List Column → ℕ
most_kind [] = 1
most_kind (c ∷ cs) = 5

abbrev pub kind_defect : List Column → ℕ → Option Defect
kind_defect before code = if nat_le 1 code && nat_le code (most_kind before) then None else Some Range

abbrev pub kind_of : ℕ → ColType
kind_of code = if code == 1 then types.Int8 else (if code == 2 then types.Oid else (if code == 3 then types.Lo else (if code == 4 then types.Bytea else types.Int4Array)))

abbrev pub is_fixed : ColType → Bool
is_fixed types.Int8 = true
is_fixed types.Oid = true
is_fixed types.Lo = true
is_fixed types.Bytea = false
is_fixed types.Int4Array = false

abbrev pub storage_defect : ColType → ℕ → Option Defect
storage_defect kind code = if (code == 112) || (not (is_fixed kind) && ((code == 101) || ((code == 120) || (code == 109)))) then None else Some Range

abbrev pub storage_of : ℕ → Storage
storage_of code = if code == 112 then storages.Plain else (if code == 101 then storages.External else (if code == 120 then storages.Extended else storages.Main))

abbrev pub kind_at : List Column → List ℕ → Result (ColType × List ℕ) Fault
kind_at before = made kind_of (tested (kind_defect before) byte_at)

abbrev pub storage_at : ColType → List ℕ → Result (Storage × List ℕ) Fault
storage_at kind = made storage_of (tested (storage_defect kind) byte_at)

abbrev pub column_of : List ℕ × (ColType × Storage) → Column
column_of x = record { name = x.0; kind = x.1.0; storage = x.1.1 }

abbrev pub column_at : List Column → List ℕ → Result (Column × List ℕ) Fault
column_at before = made column_of (both (tested (column_name_defect before) counted_at) (λ name. both (kind_at before) storage_at))

abbrev pub after_column : List Column → Column → List Column
after_column before c = before ++ c ∷ []

abbrev pub columns_defect : ℕ → Option Defect
columns_defect n = if nat_le 1 n && nat_le n 32 then None else Some Range

abbrev pub columns_at : List ℕ → Result ((ℕ × List Column) × List ℕ) Fault
columns_at = both (tested columns_defect byte_at) (many column_at after_column [])

-- ---- cells

abbrev pub int_at : List ℕ → Result (ℤ × List ℕ) Fault
int_at = made (cast_signed w64) (number w64)

abbrev pub id_defect : Option ℤ → ℤ → Option Defect
id_defect last z = if id_follows last z then None else Some Order

-- the first cell: tag 1 and an id behind the last one
abbrev pub id_at : Option ℤ → List ℕ → Result (Cell × List ℕ) Fault
id_at last = behind (fixed_piece (1 ∷ []) Range) (made cells.Int (tested (id_defect last) int_at))

abbrev pub is_plain : Storage → Bool
is_plain storages.Plain = true
is_plain storages.External = false
is_plain storages.Extended = false
is_plain storages.Main = false

abbrev pub tag_defect : Storage → ℕ → Option Defect
tag_defect storage tag = if nat_le tag 1 || ((tag == 2) && not (is_plain storage)) then None else Some Range

abbrev pub length_defect : ℕ → Option Defect
length_defect n = if nat_lt 16777216 n then Some Range else None

-- a length with the 4 bytes of its header
abbrev pub raw_defect : ℕ → Option Defect
raw_defect n = if nat_le 4 n && nat_le n 16777220 then None else Some Range

abbrev pub null_at : List ℕ → Result (Cell × List ℕ) Fault
null_at bytes = Ok (cells.Null, bytes)

abbrev pub inline_of : ℕ × List ℕ → Cell
inline_of x = cells.Inline x.1

abbrev pub bytes_at : List ℕ → Result (Cell × List ℕ) Fault
bytes_at = made inline_of (both (tested length_defect (number w32)) piece)

abbrev pub inline_at : ColType → List ℕ → Result (Cell × List ℕ) Fault
inline_at types.Int8 = made cells.Int int_at
inline_at types.Oid = made cells.Oid (number w32)
inline_at types.Lo = made cells.Oid (number w32)
inline_at types.Bytea = bytes_at
inline_at types.Int4Array = bytes_at

abbrev pub outside_of_raw : (value : ℕ) → ℕ × List ℕ → Cell
outside_of_raw value x = cells.Outside (x.0 - 4) value

abbrev pub outside_at : (table value : ℕ) → List ℕ → Result (Cell × List ℕ) Fault
outside_at table value =
    made (outside_of_raw value) (behind (fixed_piece (1 ∷ 18 ∷ []) Mismatch) (
    both (tested raw_defect (number w32)) (λ raw.
    behind (fixed w32 (raw - 4) Mismatch) (behind (fixed w32 value Mismatch) (behind (fixed w32 table Mismatch) (piece 0))))))

abbrev pub payload_at : ColType → (table value tag : ℕ) → List ℕ → Result (Cell × List ℕ) Fault
payload_at kind table value zero = null_at
payload_at kind table value (suc zero) = inline_at kind
payload_at kind table value (suc (suc n)) = outside_at table value

abbrev pub second : ℕ × Cell → Cell
second x = x.1

abbrev pub tagged_at : (table value : ℕ) → Column → List ℕ → Result (Cell × List ℕ) Fault
tagged_at table value column = made second (both (tested (tag_defect column.storage) byte_at) (payload_at column.kind table value))

abbrev pub is_array_kind : ColType → Bool
is_array_kind types.Int8 = false
is_array_kind types.Oid = false
is_array_kind types.Lo = false
is_array_kind types.Bytea = false
is_array_kind types.Int4Array = true

-- bytes of a column of the type that are no array
abbrev pub array_defect : ColType → List ℕ → Option Defect
array_defect kind bytes = if is_array_kind kind && not (is_flat_layout bytes) then Some Array else None

abbrev pub cell_defect : ColType → Cell → Option Defect
cell_defect kind cells.Null = None
cell_defect kind (cells.Int z) = None
cell_defect kind (cells.Oid n) = None
cell_defect kind (cells.Inline bytes) = array_defect kind bytes
cell_defect kind (cells.Text bytes) = None
cell_defect kind (cells.Outside n value) = None

abbrev pub cell_at : (table value : ℕ) → Column → List ℕ → Result (Cell × List ℕ) Fault
cell_at table value column = tested (cell_defect column.kind) (tagged_at table value column)

abbrev pub after_cell : (value : ℕ) → Cell → ℕ
after_cell value c = if is_cell_outside c then value + 1 else value

abbrev pub after_column_cell : (value : ℕ) → Column → Cell → ℕ
after_column_cell value column c = after_cell value c

abbrev pub after_cells : (value : ℕ) → List Cell → ℕ
after_cells value [] = value
after_cells value (c ∷ cs) = after_cells (after_cell value c) cs

-- ---- rows

abbrev pub same_mark : Bool → Bool → Bool
same_mark true b = b
same_mark false b = not b

abbrev pub same_marks : List Bool → List Bool → Bool
same_marks [] [] = true
same_marks [] (b ∷ bs) = false
same_marks (a ∷ others) [] = false
same_marks (a ∷ others) (b ∷ bs) = same_mark a b && same_marks others bs

abbrev pub are_planned : List Column → List Cell → Bool
are_planned columns found = same_marks (map is_cell_outside found) (outside_of columns (cell_lengths found)) && nat_le (up_to_8 (planned_length columns (cell_lengths found))) 8160

abbrev pub plan_defect : List Column → List Cell → Option Defect
plan_defect columns found = if are_planned columns found then None else Some Plan

abbrev pub row_of : Cell × List Cell → List Cell
row_of x = x.0 ∷ x.1

abbrev pub cells_at : List Column → (table : ℕ) → RowPlace → List ℕ → Result (List Cell × List ℕ) Fault
cells_at columns table p = made row_of (both (id_at p.last) (λ id. each (cell_at table) after_column_cell p.value (drop 1 columns)))

abbrev pub row_at : List Column → (table : ℕ) → RowPlace → List ℕ → Result (List Cell × List ℕ) Fault
row_at columns table p = tested (plan_defect columns) (cells_at columns table p)

abbrev pub id_in : List Cell → ℤ
id_in [] = pos 0
id_in (cells.Null ∷ cs) = pos 0
id_in (cells.Int z ∷ cs) = z
id_in (cells.Oid n ∷ cs) = pos 0
id_in (cells.Inline bytes ∷ cs) = pos 0
id_in (cells.Text bytes ∷ cs) = pos 0
id_in (cells.Outside n value ∷ cs) = pos 0

abbrev pub after_row : RowPlace → List Cell → RowPlace
after_row p row = record { last = Some (id_in row); value = after_cells p.value row }

abbrev pub rows_at : List Column → (table value n : ℕ) → List ℕ → Result (List (List Cell) × List ℕ) Fault
rows_at columns table value = many (row_at columns table) after_row (record { last = None; value = value })

abbrev pub after_rows : (value : ℕ) → List (List Cell) → ℕ
after_rows value [] = value
after_rows value (row ∷ rows) = after_rows (after_cells value row) rows

-- ---- tables

-- where the next table may stand: the last name, its number, and the number of the next value outside
pub record TablePlace : Type 0 where
  pub last : Option (List ℕ)
  pub table : ℕ
  pub value : ℕ

abbrev pub table_of : List ℕ × ((ℕ × List Column) × (ℕ × List (List Cell))) → TableCells
table_of x = record { name = x.0; columns = x.1.0.1; rows = x.1.1.1 }

abbrev pub table_at : TablePlace → List ℕ → Result (TableCells × List ℕ) Fault
table_at p =
    made table_of (
    both (tested (table_name_defect p.last) counted_at) (λ name.
    both columns_at (λ columns.
    both (number w64) (rows_at columns.1 p.table p.value))))

abbrev pub after_table : TablePlace → TableCells → TablePlace
after_table p t = record { last = Some t.name; table = p.table + 1; value = after_rows p.value t.rows }

abbrev pub tables_at : (n : ℕ) → List ℕ → Result (List TableCells × List ℕ) Fault
tables_at = many table_at after_table (record { last = None; table = 1; value = 1 })

-- ---- values outside

abbrev pub cell_chunks : Cell → ℕ
cell_chunks cells.Null = 0
cell_chunks (cells.Int z) = 0
cell_chunks (cells.Oid n) = 0
cell_chunks (cells.Inline bytes) = 0
cell_chunks (cells.Text bytes) = 0
cell_chunks (cells.Outside n value) = pieces chunk_bytes n

abbrev pub chunks_in_row : List Cell → ℕ
chunks_in_row [] = 0
chunks_in_row (c ∷ cs) = cell_chunks c + chunks_in_row cs

abbrev pub chunks_in_rows : List (List Cell) → ℕ
chunks_in_rows [] = 0
chunks_in_rows (row ∷ rows) = chunks_in_row row + chunks_in_rows rows

abbrev pub chunks_in_tables : List TableCells → ℕ
chunks_in_tables [] = 0
chunks_in_tables (t ∷ ts) = chunks_in_rows t.rows + chunks_in_tables ts

abbrev pub chunks_defect : (total n : ℕ) → Option Defect
chunks_defect total n = if n == total then (if nat_lt n (2 ^ 32) then None else Some Range) else Some Mismatch

-- a chunk has as many bytes as fit of those that are left
abbrev pub chunk_at : (value : ℕ) → ChunkPlace → List ℕ → Result (List ℕ × List ℕ) Fault
chunk_at value p = behind (fixed w32 value Mismatch) (behind (fixed w32 p.number Mismatch) (behind (fixed w16 (min chunk_bytes p.left) Mismatch) (piece (min chunk_bytes p.left))))

abbrev pub after_chunk : ChunkPlace → List ℕ → ChunkPlace
after_chunk p bytes = record { number = p.number + 1; left = p.left - chunk_bytes }

abbrev pub joined_pieces : List (List ℕ) → List ℕ
joined_pieces [] = []
joined_pieces (p ∷ ps) = p ++ joined_pieces ps

-- a value of that length, by its chunks
abbrev pub value_at : (value len : ℕ) → List ℕ → Result (List ℕ × List ℕ) Fault
value_at value len = made joined_pieces (many (chunk_at value) after_chunk (record { number = 0; left = len }) (pieces chunk_bytes len))

-- the value of a cell: the cell's own where it is in the row
abbrev pub cell_value_at : ColType → Cell → List ℕ → Result (Value × List ℕ) Fault
cell_value_at kind cells.Null bytes = Ok (values.Null, bytes)
cell_value_at kind (cells.Int z) bytes = Ok (values.Int z, bytes)
cell_value_at kind (cells.Oid n) bytes = Ok (values.Oid n, bytes)
cell_value_at kind (cells.Inline own) bytes = Ok (values.Bytes own, bytes)
cell_value_at kind (cells.Text own) bytes = Ok (values.Null, bytes)
cell_value_at kind (cells.Outside n value) bytes = made values.Bytes (tested (array_defect kind) (value_at value n)) bytes

-- the columns that are left, behind one
abbrev pub next_columns : List Column → Cell → Value → List Column
next_columns columns c v = drop 1 columns

abbrev pub kind_in : List Column → ColType
kind_in [] = types.Bytea
kind_in (c ∷ cs) = c.kind

abbrev pub column_value_at : List Column → Cell → List ℕ → Result (Value × List ℕ) Fault
column_value_at columns c = cell_value_at (kind_in columns) c

abbrev pub row_values_at : List Column → List Cell → List ℕ → Result (List Value × List ℕ) Fault
row_values_at columns = each column_value_at next_columns columns

abbrev pub same_columns : List Column → List Cell → List Value → List Column
same_columns columns row vs = columns

abbrev pub rows_values_at : List Column → List (List Cell) → List ℕ → Result (List (List Value) × List ℕ) Fault
rows_values_at columns = each row_values_at same_columns columns

abbrev pub with_rows : TableCells → List (List Value) → TableData
with_rows t rows = record { name = t.name; columns = t.columns; rows = rows }

abbrev pub table_values_at : ℕ → TableCells → List ℕ → Result (TableData × List ℕ) Fault
table_values_at nothing t = made (with_rows t) (rows_values_at t.columns t.rows)

abbrev pub no_state : ℕ → TableCells → TableData → ℕ
no_state nothing t data_of = nothing

abbrev pub tables_values_at : List TableCells → List ℕ → Result (List TableData × List ℕ) Fault
tables_values_at = each table_values_at no_state 0

-- ---- blocks

abbrev pub block_defect : (size : ℕ) → BlockPlace → ℕ → Option Defect
block_defect size p b =
    if nat_le size (page_bytes * b) then Some Mismatch
    else (if (p.left == 1) && (nat_lt (page_bytes * b + page_bytes) size && nat_le (2 ^ 32) (p.held + 1)) then Some Range
    else (if nat_lt b p.least then Some Order else None))

abbrev pub zero_defect : List ℕ → Option Defect
zero_defect bytes = if all_zero bytes then Some Range else None

abbrev pub block_at : (size : ℕ) → BlockPlace → List ℕ → Result ((ℕ × List ℕ) × List ℕ) Fault
block_at size p =
    both (tested (block_defect size p) (number w32)) (λ b.
    behind (fixed w16 (block_length size b) Mismatch) (tested zero_defect (piece (block_length size b))))

abbrev pub after_block : BlockPlace → ℕ × List ℕ → BlockPlace
after_block p b = record { least = b.0 + 1; left = p.left - 1; held = p.held }

-- n blocks, of which the object's record counts all as held
abbrev pub blocks_at : (size held n : ℕ) → List ℕ → Result (List (ℕ × List ℕ) × List ℕ) Fault
blocks_at size held n = many (block_at size) after_block (record { least = 0; left = n; held = held + n }) n

-- ---- objects

abbrev pub oid_defect : (least : ℕ) → ℕ → Option Defect
oid_defect least oid = if oid == 0 then Some Range else (if nat_lt oid least then Some Order else None)

abbrev pub size_defect : ℕ → Option Defect
size_defect size = if nat_lt 4398046509056 size then Some Range else None

abbrev pub count_defect : (size held n : ℕ) → Option Defect
count_defect size held n =
    if nat_lt (blocks_below size) n then Some Mismatch
    else (if nat_le (2 ^ 32) (held + n + (if (n == 0) && nat_lt 0 size then 1 else 0)) then Some Range else None)

abbrev pub object_of : ℕ × (ℕ × (ℕ × List (ℕ × List ℕ))) → ObjectData
object_of x = record { oid = x.0; size = x.1.0; stored = x.1.1.1 }

abbrev pub object_at : ObjectPlace → List ℕ → Result (ObjectData × List ℕ) Fault
object_at p =
    made object_of (
    both (tested (oid_defect p.least) (number w32)) (λ oid.
    both (tested size_defect (number w64)) (λ size.
    both (tested (count_defect size p.held) (number w32)) (λ n.
    blocks_at size p.held n))))

abbrev pub after_object : ObjectPlace → ObjectData → ObjectPlace
after_object p o = record { least = o.oid + 1; held = p.held + blocks_held o }

abbrev pub objects_at : (held n : ℕ) → List ℕ → Result (List ObjectData × List ℕ) Fault
objects_at held = many object_at after_object (record { least = 0; held = held })

-- ---- the whole

abbrev pub blocks_defect : ℕ → Option Defect
blocks_defect n = if nat_le 1 n && nat_le n 262144 then None else Some Range

abbrev pub counter_defect : ℕ → Option Defect
counter_defect n = if nat_le 16384 n && nat_le n 4294967296 then None else Some Range

abbrev pub tables_defect : ℕ → Option Defect
tables_defect n = if nat_le n 1000 then None else Some Range

-- what is behind the tables: the values outside, and the objects
abbrev pub Behind : Type 0
Behind = ℕ × (List TableData × (ℕ × List ObjectData))

abbrev pub behind_tables : List TableCells → List ℕ → Result (Behind × List ℕ) Fault
behind_tables tables =
    both (tested (chunks_defect (chunks_in_tables tables)) (number w64)) (λ chunks.
    both (tables_values_at tables) (λ shown.
    both (number w64) (objects_at chunks)))

abbrev pub Parts : Type 0
Parts = ℕ × (ℕ × ((ℕ × List TableCells) × Behind))

abbrev pub opening_of : Parts → OpeningData
opening_of x = record { blocks = x.0; counter = x.1.0; tables = x.1.1.1.1.0; objects = x.1.1.1.1.1.1 }

abbrev pub opening_at : List ℕ → Result (OpeningData × List ℕ) Fault
opening_at =
    behind (fixed_piece magic Magic) (
    made opening_of (
    both (tested blocks_defect (number w32)) (λ blocks.
    both (tested counter_defect (number w64)) (λ counter.
    both (both (tested tables_defect (number w16)) tables_at) (λ tables.
    behind_tables tables.1)))))

-- all of the bytes
unfoldable pub image_at : List ℕ → Result OpeningData Fault
image_at bytes = opening_at bytes >>= λ x. if length x.1 == 0 then Ok x.0 else fails Extra x.1

-- the place counted from the front of so many bytes
abbrev pub placed : ℕ → Result OpeningData Fault → Result OpeningData BadImage
placed n (Ok d) = Ok d
placed n (Err f) = Err (record { offset = n - f.left; kind = f.kind })

-- what a call answers is what reading gives, unless there was no memory
abbrev pub Answers : Result OpeningData ImageError → Result OpeningData BadImage → Type 0
Answers (Ok d) read = read ≡ Ok d
Answers (Err (errors.Bad b)) read = read ≡ Err b
Answers (Err errors.NoMemory) read = Unit {0}
