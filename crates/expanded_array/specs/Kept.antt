-- How a variable keeps its array: as flat bytes with the places of its fields, or as a list of elements.
use Rattle.std.specs.Prelude.{◌≡◌, ◌≢◌, ◌+◌, ◌*◌, ◌<◌, ◌≤◌, ℕ, ℤ, List, length, take, Option, Some, None, Bool, count_ones, if◌then◌else◌, ◌-ℤ◌, ◌==◌, int_lt, nat_lt}
use Rattle.expanded_array.specs.Array.{Array, IsHeld, limit, last_limit, size_set}
use Rattle.expanded_array.specs.Flat.{flat_bytes, number_of_flags, bitmap_len}
use Rattle.expanded_array.specs.Layout.{array_of, elements_in, flags_in, header_len}
use Rattle.expanded_array.specs.declared.flat_array.FlatArray.{FlatArray}
use Rattle.expanded_array.specs.declared.expanded.Expanded.{Expanded}
use Rattle.expanded_array.specs.declared.array_var.Kept.{Kept}
use Rattle.expanded_array.specs.declared.array_var.Kept.TheVariants.{Flat, Elements}

-- the place of the first number that belongs to an element at or behind an index, where the first number of all is at a place
abbrev pub place_in : List Bool → ℕ → ℕ → ℕ
place_in flags start index = start + 4 * count_ones (number_of_flags (take index flags))

-- the bytes are flat, with these bounds and the numbers from this place on
pub record Reads (bytes : List ℕ) (lower : ℤ) (count start : ℕ) : Type 0 where
  pub held : IsHeld (array_of lower (elements_in bytes count start))
  pub bytes_are : bytes ≡ flat_bytes (array_of lower (elements_in bytes count start))
  pub few : count ≤ limit
  pub near : start ≤ limit
  pub room : length bytes ≡ start + 4 * count_ones (number_of_flags (flags_in bytes count start))
  pub bits : 0 < count → start ≢ header_len → header_len + bitmap_len count ≤ start

abbrev pub flat_flags : FlatArray → List Bool
flat_flags f = flags_in f.bytes.items f.count f.start

abbrev pub flat_elements : FlatArray → List (Option ℤ)
flat_elements f = elements_in f.bytes.items f.count f.start

abbrev pub flat_array : FlatArray → Array
flat_array f = array_of f.lower (flat_elements f)

abbrev pub place_of : FlatArray → ℕ → ℕ
place_of f index = place_in (flat_flags f) f.start index

-- the fields are those of the bytes
abbrev pub IsRead : FlatArray → Type 0
IsRead f = Reads f.bytes.items f.lower f.count f.start

abbrev pub expanded_array : Expanded → Array
expanded_array e = array_of e.lower e.elements

abbrev pub kept_array : Kept → Array
kept_array (Flat f) = flat_array f
kept_array (Elements e) = expanded_array e

abbrev pub IsKept : Kept → Type 0
IsKept (Flat f) = IsRead f
IsKept (Elements e) = IsHeld (expanded_array e)

-- the number of elements of an array with these bounds once a subscript is set
abbrev pub size_after : ℤ → ℤ → ℕ → ℕ
size_after sub lower count = if count == 0 then 1 else size_set (sub -ℤ lower) count

-- the number of elements that is too many, where setting a subscript would leave as many
abbrev pub excess_of : ℤ → ℤ → ℕ → Option ℕ
excess_of sub lower count = if int_lt last_limit sub then Some (limit + 1) else if nat_lt limit (size_after sub lower count) then Some (size_after sub lower count) else None

-- the place from which the element at an index is read
abbrev pub kept_place : Kept → ℕ → ℕ
kept_place (Flat f) index = place_of f index
kept_place (Elements e) index = 0
