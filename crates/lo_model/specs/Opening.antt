use Rattle.std.specs.Prelude.{ℕ, ℤ, pos, ◌+◌, ◌*◌, min, Bool, not, ◌==◌, ◌||◌, List, [], ◌∷◌, ◌++◌, map, filter, flat_map, length, take, drop, if◌then◌else◌}
use Rattle.std.specs.List.{list_any, range_with_len}
use Rattle.lo_base.specs.declared.value.Value.{Value}
use Rattle.lo_base.specs.declared.value.Value.TheVariants.{Int}
use Rattle.lo_base.specs.declared.column.Column.{Column}
use Rattle.lo_model.specs.declared.owner.Owner.TheVariants.{Committed}
use Rattle.lo_model.specs.Edit.{Deed, Create, Write, Cut, Put, edits_by}
use Rattle.lo_model.specs.Database.{Database}
use Rattle.lo_model.specs.Stored.{stored_anew}
use Rattle.lo_model.specs.Held.{pieces}
use Rattle.lo_model.specs.Touch.{page_bytes}

-- An opening is a database as plain data: the number of blocks of its pool, the counter, the tables with their rows, and
-- the objects as byte lists.
pub record TableRows : Type 0 where
  pub name : List ℕ
  pub columns : List Column
  pub rows : List (List Value)

pub record ObjectBytes : Type 0 where
  pub oid : ℕ
  pub bytes : List ℕ

pub record Opening : Type 0 where
  pub blocks : ℕ
  pub counter : ℕ
  pub tables : List TableRows
  pub objects : List ObjectBytes

-- The database of an opening is given by edits of clock 0 that were committed at clock 0. An object is a creation, one
-- write for each of its pages that is not all zero, and a cut to its size where the size is neither 0 nor the end of the
-- last page written. A row is a put whose values outside were moved out at clock 0.

-- the bytes of a page
abbrev pub page_of : List ℕ → (number : ℕ) → List ℕ
page_of bytes b = take page_bytes (drop (page_bytes * b) bytes)

-- whether a page has a byte that is not 0
abbrev pub is_written : List ℕ → (number : ℕ) → Bool
is_written bytes b = list_any (λ byte. not (byte == 0)) (page_of bytes b)

-- the numbers of the pages that have a byte that is not 0, ascending
abbrev pub written_pages : List ℕ → List ℕ
written_pages bytes = filter (is_written bytes) (range_with_len 0 (pieces page_bytes (length bytes)))

-- where the last of some pages ends, or 0 where there are none
abbrev pub end_of : (size : ℕ) → (end : ℕ) → List ℕ → ℕ
end_of size end [] = end
end_of size end (b ∷ bs) = end_of size (min (page_bytes * b + page_bytes) size) bs

abbrev pub needs_cut : List ℕ → Bool
needs_cut bytes = not ((length bytes == 0) || (length bytes == end_of (length bytes) 0 (written_pages bytes)))

abbrev pub object_deeds : ObjectBytes → List Deed
object_deeds object =
    Create object.oid
    ∷ (map (λ b. Write object.oid (page_bytes * b) (page_of object.bytes b)) (written_pages object.bytes)
    ++ (if needs_cut object.bytes then Cut object.oid (length object.bytes) ∷ [] else []))

-- a row's id is the value of its first column
abbrev pub id_of : List Value → ℤ
id_of (Int n ∷ values) = n
id_of _ = pos 0

-- the puts of a table's rows. `plan` tells for columns and values which of the values lie outside the row
abbrev pub table_deeds : (plan : List Column → List Value → List Bool) → TableRows → List Deed
table_deeds plan table =
    map (λ values. Put table.name (id_of values) values (stored_anew 0 (plan table.columns values))) table.rows

abbrev pub opened : (plan : List Column → List Value → List Bool) → Opening → Database
opened plan opening = record {
  edits = edits_by 0 (Committed 0) (flat_map (table_deeds plan) opening.tables ++ flat_map object_deeds opening.objects);
  tables = map (λ (t : TableRows). record { name = t.name; columns = t.columns }) opening.tables;
  counter = opening.counter;
}
