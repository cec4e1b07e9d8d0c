-- What plain data mean: the model's opening, in which an object is a list of bytes.
use Rattle.std.specs.Prelude.{◌*◌, ℕ, ◌==◌, List, [], ◌∷◌, ◌++◌, map, replicate, flat_map, Option, Some, None, if◌then◌else◌, length}
use Rattle.std.specs.List.{range_with_len}
use Rattle.lo_model.specs.Edit.{Deed, Create, Write, Cut}
use Rattle.lo_model.specs.Opening.{ObjectBytes, TableRows, Opening, page_of, written_pages}
use Rattle.lo_model.specs.Touch.{page_bytes}
use Rattle.lo_opening.specs.declared.opening.ObjectData.{ObjectData}
use Rattle.lo_opening.specs.declared.opening.TableData.{TableData}
use Rattle.lo_opening.specs.Opening.{OpeningData, block_length, blocks_below, has_tail}

-- the stored block of a number
abbrev pub stored_at : (number : ℕ) → List (ℕ × List ℕ) → Option (List ℕ)
stored_at b [] = None
stored_at b (x ∷ xs) = if x.0 == b then Some x.1 else stored_at b xs

abbrev pub or_zeros : (count : ℕ) → Option (List ℕ) → List ℕ
or_zeros count None = replicate count 0
or_zeros count (Some bytes) = bytes

-- a block's bytes: those that are stored, and else zeros
abbrev pub block_of : (size : ℕ) → List (ℕ × List ℕ) → (number : ℕ) → List ℕ
block_of size stored b = or_zeros (block_length size b) (stored_at b stored)

-- An object's bytes are those of its blocks, one behind the other.
abbrev pub bytes_of : ObjectData → List ℕ
bytes_of o = flat_map (block_of o.size o.stored) (range_with_len 0 (blocks_below o.size))

abbrev pub object_of : ObjectData → ObjectBytes
object_of o = record { oid = o.oid; bytes = bytes_of o }

abbrev pub table_of : TableData → TableRows
table_of t = record { name = t.name; columns = t.columns; rows = t.rows }

abbrev pub opening_of : OpeningData → Opening
opening_of d = record {
  blocks = d.blocks;
  counter = d.counter;
  tables = map table_of d.tables;
  objects = map object_of d.objects;
}

-- ---- what a loader does

-- the write of a stored block
abbrev pub block_write : (oid : ℕ) → ℕ × List ℕ → Deed
block_write o b = Write o (page_bytes * b.0) b.1

-- a cut to the size, where zeros stand behind the last stored block
abbrev pub tail_cut : ObjectData → List Deed
tail_cut o = if has_tail o.size 0 o.stored then Cut o.oid o.size ∷ [] else []

-- an object's creation, a write for each stored block, and the cut
abbrev pub load_deeds : ObjectData → List Deed
load_deeds o = Create o.oid ∷ (map (block_write o.oid) o.stored ++ tail_cut o)

-- ---- what a saver does

abbrev pub number_of : ℕ × List ℕ → ℕ
number_of b = b.0

abbrev pub page_with_number : List ℕ → (number : ℕ) → ℕ × List ℕ
page_with_number bytes b = (b, page_of bytes b)

-- Of some bytes are stored the pages that have a byte other than 0.
abbrev pub stored_of : List ℕ → List (ℕ × List ℕ)
stored_of bytes = map (page_with_number bytes) (written_pages bytes)

-- a database as plain data: of an object its size, and those of its pages that have a byte other than 0
abbrev pub data_of_object : ObjectBytes → ObjectData
data_of_object o = record { oid = o.oid; size = length o.bytes; stored = stored_of o.bytes }

abbrev pub data_of_table : TableRows → TableData
data_of_table t = record { name = t.name; columns = t.columns; rows = t.rows }

abbrev pub data_of : Opening → OpeningData
data_of o = record {
  blocks = o.blocks;
  counter = o.counter;
  tables = map data_of_table o.tables;
  objects = map data_of_object o.objects;
}
