-- The tables and the objects of the tests.
use Rattle.std.specs.Prelude.{ℕ, zero, suc, ◌+◌, pos, List, [], ◌∷◌, codes, replicate}
use Rattle.lo_base.specs.declared.column.Column.{Column}
use Rattle.lo_base.specs.declared.column.ColType.TheVariants.{Int8, Bytea, Int4Array}
use Rattle.lo_base.specs.declared.column.Storage.TheVariants.{Plain, External, Extended}
use Rattle.lo_base.specs.declared.value.Value.{Value}
use Rattle.lo_base.specs.declared.value.Value.TheVariants.{Null, Int, Bytes}
use Rattle.lo_opening.specs.declared.opening.ObjectData.{ObjectData}
use Rattle.lo_opening.specs.declared.opening.TableData.{TableData}

abbrev pub id_column : Column
id_column = record { name = codes "id"; kind = Int8; storage = Plain }

abbrev pub body_column : Column
body_column = record { name = codes "body"; kind = Bytea; storage = External }

abbrev pub pair_column : Column
pair_column = record { name = codes "pair"; kind = Int4Array; storage = Extended }

-- a row with a null, and one with a value
abbrev pub sample_rows : List (List Value)
sample_rows =
    (Int (pos 0) ∷ Null ∷ [])
    ∷ (Int (pos 1) ∷ Bytes (replicate 10 65) ∷ [])
    ∷ []

abbrev pub first_table : TableData
first_table = record { name = codes "a"; columns = id_column ∷ body_column ∷ []; rows = sample_rows }

-- the flat bytes of the array {7,-1}: a dimension, no offset, the type int4, two elements from 1 on
abbrev pub pair : List ℕ
pair = 1 ∷ 0 ∷ 0 ∷ 0 ∷ 0 ∷ 0 ∷ 0 ∷ 0 ∷ 23 ∷ 0 ∷ 0 ∷ 0 ∷ 2 ∷ 0 ∷ 0 ∷ 0 ∷ 1 ∷ 0 ∷ 0 ∷ 0 ∷ 7 ∷ 0 ∷ 0 ∷ 0 ∷ 255 ∷ 255 ∷ 255 ∷ 255 ∷ []

-- a row with a value outside, and so many rows with an array from an id on
abbrev pub long_row : List Value
long_row = Int (pos 0) ∷ Bytes (replicate 5000 66) ∷ Null ∷ []

abbrev pub pair_row : ℕ → List Value
pair_row id = Int (pos id) ∷ Null ∷ Bytes pair ∷ []

abbrev pub pair_rows : (first count : ℕ) → List (List Value)
pair_rows first zero = []
pair_rows first (suc count) = pair_row first ∷ pair_rows (first + 1) count

abbrev pub second_table : TableData
second_table = record { name = codes "ba"; columns = id_column ∷ body_column ∷ pair_column ∷ []; rows = long_row ∷ pair_rows 1 300 }

abbrev pub sample : List TableData
sample = first_table ∷ second_table ∷ []

-- two stored blocks, of which the first is behind zeros
abbrev pub sample_blocks : List (ℕ × List ℕ)
sample_blocks = (1, replicate 2048 65) ∷ (3, replicate 2048 66) ∷ []

abbrev pub sample_object : (oid size : ℕ) → List (ℕ × List ℕ) → ObjectData
sample_object oid size stored = record { oid = oid; size = size; stored = stored }

-- an object with these blocks and a tail of zeros, an empty one, and one of zeros
abbrev pub sample_objects : List ObjectData
sample_objects = sample_object 16384 10000 sample_blocks ∷ sample_object 16385 0 [] ∷ sample_object 16390 5000 [] ∷ []
