-- The fields of a database as plain data, and their rules.
use Rattle.std.specs.Prelude.{◌≡◌, ℕ, ℤ, pos, ◌+◌, ◌*◌, ◌-◌, ◌<◌, ◌≤◌, ◌^◌, min, nat_lt, int_lt, Bool, true, false, ◌==◌, if◌then◌else◌, List, [], ◌∷◌, length, Option, Some, None}
use Rattle.std.specs.List.{list_all}
use Rattle.std.specs.declared.cmp.Ordering.TheVariants.{Less}
use Rattle.std.specs.Ordering.{nat_cmp}
use Rattle.std.specs.Cmp.Lexicographic.{slice_cmp}
use Rattle.lo_base.specs.Name.{IsName}
use Rattle.lo_base.specs.declared.column.Column.{Column}
use Rattle.lo_base.specs.declared.column.ColType.{ColType}
use Rattle.lo_base.specs.declared.column.ColType.TheVariants as types
use Rattle.lo_base.specs.declared.value.Value.{Value}
use Rattle.lo_base.specs.declared.value.Value.TheVariants as values
use Rattle.lo_model.specs.Held.{chunk_bytes, pieces}
use Rattle.lo_model.specs.Touch.{page_bytes}
use Rattle.toast_plan.specs.Columns.{IsTableColumns}
use Rattle.toast_plan.specs.Choice.{outside_of}
use Rattle.toast_plan.specs.Row.{value_lengths, count_outside}
use Rattle.toast_plan.specs.Laws.{HasRow}
use Rattle.expanded_array.specs.Flat.{IsFlat}
use Rattle.lo_opening.specs.declared.opening.ObjectData.{ObjectData}
use Rattle.lo_opening.specs.declared.opening.TableData.{TableData}

pub record OpeningData : Type 0 where
  pub blocks : ℕ
  pub counter : ℕ
  pub tables : List TableData
  pub objects : List ObjectData

-- ---- objects

-- of an object of this size: how many bytes its block holds, and how many blocks begin below the size
abbrev pub block_length : (size number : ℕ) → ℕ
block_length size number = min page_bytes (size - page_bytes * number)

abbrev pub blocks_below : (size : ℕ) → ℕ
blocks_below size = pieces page_bytes size

abbrev pub all_zero : List ℕ → Bool
all_zero bytes = list_all (λ b. b == 0) bytes

-- a stored block of an object of the size
pub record IsBlock (size : ℕ) (block : ℕ × List ℕ) : Type 0 where
  pub number : block.0 < 2 ^ 32
  pub below : page_bytes * block.0 < size
  pub bytes : length block.1 ≡ block_length size block.0
  pub written : all_zero block.1 ≡ false

-- blocks by ascending number, the first at least `least`
abbrev pub AreBlocks : (size least : ℕ) → List (ℕ × List ℕ) → Type 0
AreBlocks size least [] = Unit {0}
AreBlocks size least (b ∷ bs) = IsBlock size b × (least ≤ b.0) × AreBlocks size (b.0 + 1) bs

-- whether zeros stand behind the last of some blocks, which ends at `end` where there is none
abbrev pub has_tail : (size end : ℕ) → List (ℕ × List ℕ) → Bool
has_tail size end [] = nat_lt end size
has_tail size end (b ∷ bs) = has_tail size (page_bytes * b.0 + page_bytes) bs

-- how many blocks of the pool an object holds: its stored ones, and one for an end behind them
abbrev pub blocks_held : ObjectData → ℕ
blocks_held o = length o.stored + (if has_tail o.size 0 o.stored then 1 else 0)

-- an object where `held` blocks are held by what stands before it
pub record IsObject (held : ℕ) (o : ObjectData) : Type 0 where
  pub least : 1 ≤ o.oid
  pub most : o.oid < 2 ^ 32
  pub size : o.size ≤ 4398046509056
  pub stored : AreBlocks o.size 0 o.stored
  pub fits : held + blocks_held o < 2 ^ 32

-- objects by ascending number
abbrev pub AreObjects : (least held : ℕ) → List ObjectData → Type 0
AreObjects least held [] = Unit {0}
AreObjects least held (o ∷ os) = IsObject held o × (least ≤ o.oid) × AreObjects (o.oid + 1) (held + blocks_held o) os

-- ---- rows

-- which of a row's values are outside, and how many
abbrev pub marks_of : List Column → List Value → List Bool
marks_of columns vs = outside_of columns (value_lengths vs)

abbrev pub row_outside : List Column → List Value → ℕ
row_outside columns vs = count_outside (marks_of columns vs)

abbrev pub rows_outside : List Column → List (List Value) → ℕ
rows_outside columns [] = 0
rows_outside columns (vs ∷ rows) = row_outside columns vs + rows_outside columns rows

-- into how many chunks the marked values are cut
abbrev pub value_chunks : Value → ℕ
value_chunks values.Null = 0
value_chunks (values.Int z) = 0
value_chunks (values.Oid n) = 0
value_chunks (values.Bytes bytes) = pieces chunk_bytes (length bytes)

abbrev pub marked_chunks : List Value → List Bool → ℕ
marked_chunks [] os = 0
marked_chunks (v ∷ vs) [] = 0
marked_chunks (v ∷ vs) (o ∷ os) = (if o then value_chunks v else 0) + marked_chunks vs os

abbrev pub rows_chunks : List Column → List (List Value) → ℕ
rows_chunks columns [] = 0
rows_chunks columns (vs ∷ rows) = marked_chunks vs (marks_of columns vs) + rows_chunks columns rows

abbrev pub tables_chunks : List TableData → ℕ
tables_chunks [] = 0
tables_chunks (t ∷ ts) = rows_chunks t.columns t.rows + tables_chunks ts

-- bytes in a column of arrays are an array's
abbrev pub IsArrayIfThere : ColType → Value → Type 0
IsArrayIfThere kind values.Null = Unit {0}
IsArrayIfThere kind (values.Int z) = Unit {0}
IsArrayIfThere kind (values.Oid n) = Unit {0}
IsArrayIfThere types.Int8 (values.Bytes bytes) = Unit {0}
IsArrayIfThere types.Oid (values.Bytes bytes) = Unit {0}
IsArrayIfThere types.Lo (values.Bytes bytes) = Unit {0}
IsArrayIfThere types.Bytea (values.Bytes bytes) = Unit {0}
IsArrayIfThere types.Int4Array (values.Bytes bytes) = IsFlat bytes

abbrev pub HoldArrays : List Column → List Value → Type 0
HoldArrays [] vs = Unit {0}
HoldArrays (c ∷ cs) [] = Unit {0}
HoldArrays (c ∷ cs) (v ∷ vs) = IsArrayIfThere c.kind v × HoldArrays cs vs

-- a row's id
abbrev pub id_of : List Value → ℤ
id_of [] = pos 0
id_of (values.Null ∷ vs) = pos 0
id_of (values.Int z ∷ vs) = z
id_of (values.Oid n ∷ vs) = pos 0
id_of (values.Bytes bytes ∷ vs) = pos 0

-- an id behind the last one
abbrev pub id_follows : Option ℤ → ℤ → Bool
id_follows None z = true
id_follows (Some last) z = int_lt last z

-- a row of the table of that number where its first value outside has the number `value`
pub record IsRowAt (columns : List Column) (table value : ℕ) (vs : List Value) : Type 0 where
  pub row : HasRow columns table value vs
  pub arrays : HoldArrays columns vs

-- rows by ascending id
abbrev pub AreRows : List Column → (table : ℕ) → (last : Option ℤ) → (value : ℕ) → List (List Value) → Type 0
AreRows columns table last value [] = Unit {0}
AreRows columns table last value (vs ∷ rows) = IsRowAt columns table value vs × (id_follows last (id_of vs) ≡ true) × AreRows columns table (Some (id_of vs)) (value + row_outside columns vs) rows

-- ---- tables

-- a name behind the last one, byte by byte
abbrev pub NameFollows : Option (List ℕ) → List ℕ → Type 0
NameFollows None name = Unit {0}
NameFollows (Some last) name = slice_cmp nat_cmp last name ≡ Less

pub record IsTableAt (table value : ℕ) (t : TableData) : Type 0 where
  pub name : IsName t.name
  pub columns : IsTableColumns t.columns
  pub rows : AreRows t.columns table None value t.rows
  pub few_rows : length t.rows < 2 ^ 64

-- tables by ascending name
abbrev pub AreTables : (last : Option (List ℕ)) → (table value : ℕ) → List TableData → Type 0
AreTables last table value [] = Unit {0}
AreTables last table value (t ∷ ts) = IsTableAt table value t × NameFollows last t.name × AreTables (Some t.name) (table + 1) (value + rows_outside t.columns t.rows) ts

-- ---- the whole

pub record IsOpening (d : OpeningData) : Type 0 where
  pub some_blocks : 1 ≤ d.blocks
  pub few_blocks : d.blocks ≤ 262144
  pub least_counter : 16384 ≤ d.counter
  pub most_counter : d.counter ≤ 4294967296
  pub few_tables : length d.tables ≤ 1000
  pub tables : AreTables None 1 1 d.tables
  pub few_chunks : tables_chunks d.tables < 2 ^ 32
  pub objects : AreObjects 0 (tables_chunks d.tables) d.objects
  pub few_objects : length d.objects < 2 ^ 64
