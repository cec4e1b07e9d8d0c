-- How long a row is (PostgreSQL manual, chapter Database Physical Storage, sections TOAST and Database Page Layout).
use Rattle.std.specs.Prelude.{ℕ, ◌+◌, ◌*◌, ◌/◌, nat_le, Bool, true, false, if◌then◌else◌, List, [], ◌∷◌, length, Option, Some, None, is_none}
use Rattle.std.specs.List.{list_any}
use Rattle.lo_base.specs.declared.column.Column.{Column}
use Rattle.lo_base.specs.declared.column.ColType.{ColType}
use Rattle.lo_base.specs.declared.column.ColType.TheVariants as types
use Rattle.lo_base.specs.declared.column.Storage.{Storage}
use Rattle.lo_base.specs.declared.column.Storage.TheVariants.{Plain, External, Extended, Main}

-- rounded up to a multiple of 4, and of 8
abbrev pub up_to_4 : ℕ → ℕ
up_to_4 n = (n + 3) / 4 * 4

abbrev pub up_to_8 : ℕ → ℕ
up_to_8 n = (n + 7) / 8 * 8

-- a value of up to 126 bytes that could move out has a header of one byte
abbrev pub has_short_header : Storage → ℕ → Bool
has_short_header Plain n = false
has_short_header External n = nat_le n 126
has_short_header Extended n = nat_le n 126
has_short_header Main n = nat_le n 126

abbrev pub value_header : Storage → ℕ → ℕ
value_header s n = if has_short_header s n then 1 else 4

-- where a value of variable length ends that is put at the place `at` of a row's data: behind a short header it is not
-- aligned, behind a long one it is
abbrev pub bytes_end : Storage → ℕ → ℕ → ℕ
bytes_end s n at = if has_short_header s n then at + 1 + n else up_to_4 at + 4 + n

-- where a value of `n` bytes ends that stays in the row
abbrev pub value_end : ColType → Storage → ℕ → ℕ → ℕ
value_end types.Int8 s n at = up_to_8 at + n
value_end types.Oid s n at = up_to_4 at + n
value_end types.Lo s n at = up_to_4 at + n
value_end types.Bytea s n at = bytes_end s n at
value_end types.Int4Array s n at = bytes_end s n at

-- where a column's part of the data ends: a null has none, and a value outside leaves a pointer of 18 bytes
abbrev pub field_end : Column → Option ℕ → Bool → ℕ → ℕ
field_end c None out at = at
field_end c (Some n) true at = at + 18
field_end c (Some n) false at = value_end c.kind c.storage n at

-- where the data end that go on at the place `at`
abbrev pub data_end : ℕ → List Column → List (Option ℕ) → List Bool → ℕ
data_end at [] ns os = at
data_end at (c ∷ cs) [] os = at
data_end at (c ∷ cs) (n ∷ ns) [] = at
data_end at (c ∷ cs) (n ∷ ns) (o ∷ os) = data_end (field_end c n o at) cs ns os

abbrev pub data_length : List Column → List (Option ℕ) → List Bool → ℕ
data_length cs ns os = data_end 0 cs ns os

-- the header: 23 bytes and, where a value is null, one bit for each column, rounded up to a multiple of 8
abbrev pub header_length : List (Option ℕ) → ℕ
header_length ns = up_to_8 (23 + (if list_any is_none ns then (length ns + 7) / 8 else 0))

-- a row's length with these of its values outside
abbrev pub row_length : List Column → List (Option ℕ) → List Bool → ℕ
row_length cs ns os = header_length ns + data_length cs ns os
