-- The bytes of an image, field by field. Numbers are little-endian.
use Rattle.std.specs.Prelude.{ℕ, zero, suc, ◌+◌, List, [], ◌∷◌, ◌++◌, length, take, drop, Bool, true, false}
use Rattle.std.specs.Int.{w16, w32, w64, to_le_bytes}
use Rattle.lo_base.specs.declared.column.Column.{Column}
use Rattle.lo_base.specs.declared.column.ColType.{ColType}
use Rattle.lo_base.specs.declared.column.ColType.TheVariants as types
use Rattle.lo_base.specs.declared.column.Storage.{Storage}
use Rattle.lo_base.specs.declared.column.Storage.TheVariants as storages
use Rattle.lo_base.specs.declared.value.Value.{Value}
use Rattle.lo_base.specs.declared.value.Value.TheVariants as values
use Rattle.lo_model.specs.Held.{chunk_bytes, pieces}
use Rattle.toast_plan.specs.Row.{row_form, planned_fields}
use Rattle.lo_opening.specs.declared.opening.ObjectData.{ObjectData}
use Rattle.lo_opening.specs.declared.opening.TableData.{TableData}
use Rattle.lo_opening.specs.Opening.{OpeningData, marks_of, row_outside, rows_outside, tables_chunks}

-- PGLOIMG1
abbrev pub magic : List ℕ
magic = 80 ∷ 71 ∷ 76 ∷ 79 ∷ 73 ∷ 77 ∷ 71 ∷ 49 ∷ []

-- ---- tables

-- a name behind its length
abbrev pub name_form : List ℕ → List ℕ
name_form name = length name ∷ name

abbrev pub type_code : ColType → ℕ
type_code types.Int8 = 1
type_code types.Oid = 2
type_code types.Lo = 3
type_code types.Bytea = 4
type_code types.Int4Array = 5

-- the letters p, e, x and m
abbrev pub storage_code : Storage → ℕ
storage_code storages.Plain = 112
storage_code storages.External = 101
storage_code storages.Extended = 120
storage_code storages.Main = 109

abbrev pub column_form : Column → List ℕ
column_form c = name_form c.name ++ (type_code c.kind ∷ [] ++ storage_code c.storage ∷ [])

abbrev pub columns_form : List Column → List ℕ
columns_form [] = []
columns_form (c ∷ cs) = column_form c ++ columns_form cs

-- rows, where the next value outside has the number `value`
abbrev pub rows_form : List Column → (table value : ℕ) → List (List Value) → List ℕ
rows_form columns table value [] = []
rows_form columns table value (vs ∷ rows) = row_form (planned_fields columns table value vs) ++ rows_form columns table (value + row_outside columns vs) rows

abbrev pub table_form : (table value : ℕ) → TableData → List ℕ
table_form table value t = name_form t.name ++ (length t.columns ∷ [] ++ (columns_form t.columns ++ (to_le_bytes w64 (length t.rows) ++ rows_form t.columns table value t.rows)))

abbrev pub tables_form : (table value : ℕ) → List TableData → List ℕ
tables_form table value [] = []
tables_form table value (t ∷ ts) = table_form table value t ++ tables_form (table + 1) (value + rows_outside t.columns t.rows) ts

-- ---- chunks

-- a chunk: the value's number, its own, its length and its bytes
abbrev pub chunk_form : (value number : ℕ) → List ℕ → List ℕ
chunk_form value number bytes = to_le_bytes w32 value ++ (to_le_bytes w32 number ++ (to_le_bytes w16 (length bytes) ++ bytes))

-- so many chunks of a value, from a number on
abbrev pub chunks_form : (value count number : ℕ) → List ℕ → List ℕ
chunks_form value zero number bytes = []
chunks_form value (suc count) number bytes = chunk_form value number (take chunk_bytes bytes) ++ chunks_form value count (number + 1) (drop chunk_bytes bytes)

abbrev pub value_form : (value : ℕ) → List ℕ → List ℕ
value_form value bytes = chunks_form value (pieces chunk_bytes (length bytes)) 0 bytes

-- the chunks of a value where it is outside
abbrev pub marked_form : (value : ℕ) → Value → Bool → List ℕ
marked_form value v false = []
marked_form value values.Null true = []
marked_form value (values.Int z) true = []
marked_form value (values.Oid n) true = []
marked_form value (values.Bytes bytes) true = value_form value bytes

abbrev pub next_number : ℕ → Bool → ℕ
next_number value true = value + 1
next_number value false = value

abbrev pub row_chunks_form : (value : ℕ) → List Value → List Bool → List ℕ
row_chunks_form value [] os = []
row_chunks_form value (v ∷ vs) [] = []
row_chunks_form value (v ∷ vs) (o ∷ os) = marked_form value v o ++ row_chunks_form (next_number value o) vs os

abbrev pub rows_chunks_form : List Column → (value : ℕ) → List (List Value) → List ℕ
rows_chunks_form columns value [] = []
rows_chunks_form columns value (vs ∷ rows) = row_chunks_form value vs (marks_of columns vs) ++ rows_chunks_form columns (value + row_outside columns vs) rows

abbrev pub tables_chunks_form : (value : ℕ) → List TableData → List ℕ
tables_chunks_form value [] = []
tables_chunks_form value (t ∷ ts) = rows_chunks_form t.columns value t.rows ++ tables_chunks_form (value + rows_outside t.columns t.rows) ts

-- ---- objects

abbrev pub block_form : ℕ × List ℕ → List ℕ
block_form b = to_le_bytes w32 b.0 ++ (to_le_bytes w16 (length b.1) ++ b.1)

abbrev pub blocks_form : List (ℕ × List ℕ) → List ℕ
blocks_form [] = []
blocks_form (b ∷ bs) = block_form b ++ blocks_form bs

-- an object's number, its size and how many blocks are stored
unfoldable pub object_head : (oid size count : ℕ) → List ℕ
object_head oid size count = to_le_bytes w32 oid ++ (to_le_bytes w64 size ++ to_le_bytes w32 count)

abbrev pub object_form : ObjectData → List ℕ
object_form o = object_head o.oid o.size (length o.stored) ++ blocks_form o.stored

abbrev pub objects_form : List ObjectData → List ℕ
objects_form [] = []
objects_form (o ∷ os) = object_form o ++ objects_form os

-- ---- the whole

-- the pool's blocks, the counter and how many tables there are
unfoldable pub image_head : (blocks counter count : ℕ) → List ℕ
image_head blocks counter count = magic ++ (to_le_bytes w32 blocks ++ (to_le_bytes w64 counter ++ to_le_bytes w16 count))

unfoldable pub image : OpeningData → List ℕ
image d = image_head d.blocks d.counter (length d.tables)
    ++ (tables_form 1 1 d.tables
    ++ (to_le_bytes w64 (tables_chunks d.tables) ++ (tables_chunks_form 1 d.tables
    ++ (to_le_bytes w64 (length d.objects) ++ objects_form d.objects))))
