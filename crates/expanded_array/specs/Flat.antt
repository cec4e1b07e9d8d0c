-- Flat bytes of an array (PostgreSQL source, src/include/utils/array.h, little-endian and without the length word of 4 bytes):
-- the number of dimensions, the data offset, the element type, and for an array with elements their number, the lower bound, where
-- some are null a bitmap and padding, and the elements that are not null.
use Rattle.std.specs.Prelude.{◌≡◌, ◌+◌, ◌-◌, ◌*◌, ◌/◌, ◌%◌, ℕ, zero, suc, ℤ, List, [], ◌∷◌, ◌++◌, length, map, replicate, Option, Some, None, is_some, Bool, true, false, if◌then◌else◌}
use Rattle.std.specs.Int.{w32, to_le_bytes, cast_unsigned}
use Rattle.expanded_array.specs.Array.{Array, Empty, Bounded, IsHeld}

-- four bytes of a number that is not negative
abbrev pub word : ℕ → List ℕ
word n = to_le_bytes w32 n

-- four bytes of an int4, in two's complement
abbrev pub int4 : ℤ → List ℕ
int4 z = word (cast_unsigned w32 z)

-- the object number of the type int4
abbrev pub int4_type : ℕ
int4_type = 23

-- of each element, whether it is there: not null
abbrev pub presence : List (Option ℤ) → List Bool
presence elements = map is_some elements

abbrev pub has_absent : List Bool → Bool
has_absent [] = false
has_absent (true ∷ flags) = has_absent flags
has_absent (false ∷ flags) = true

-- the number whose bit k is set where flag k is
abbrev pub number_of_flags : List Bool → ℕ
number_of_flags [] = 0
number_of_flags (flag ∷ flags) = (if flag then 1 else 0) + 2 * number_of_flags flags

-- the lowest bytes of a number of any size, lowest first
abbrev pub low_bytes : ℕ → ℕ → List ℕ
low_bytes zero n = []
low_bytes (suc k) n = (n % 256) ∷ low_bytes k (n / 256)

-- the bytes of a bitmap of so many elements
abbrev pub bitmap_len : ℕ → ℕ
bitmap_len count = (count + 7) / 8

-- a bit for each element, the lowest first, set where it is not null. The bits after the last element are 0
abbrev pub bitmap : List Bool → List ℕ
bitmap flags = low_bytes (bitmap_len (length flags)) (number_of_flags flags)

-- where the elements begin behind a bitmap: counted with the length word, the next multiple of 8
abbrev pub data_offset : ℕ → ℕ
data_offset count = (24 + bitmap_len count + 7) / 8 * 8

-- the zeros between the bitmap and the elements
abbrev pub padding : ℕ → List ℕ
padding count = replicate (data_offset count - (24 + bitmap_len count)) 0

-- the elements that are not null
abbrev pub numbers : List (Option ℤ) → List ℕ
numbers [] = []
numbers (None ∷ elements) = numbers elements
numbers (Some z ∷ elements) = int4 z ++ numbers elements

-- what stands before the bitmap or the elements
abbrev pub header : ℕ → ℕ → ℤ → List ℕ
header offset count lower = word 1 ++ word offset ++ word int4_type ++ word count ++ int4 lower

-- the flat bytes of an array
abbrev pub flat_bytes : Array → List ℕ
flat_bytes Empty = word 0 ++ word 0 ++ word int4_type
flat_bytes (Bounded lower elements) =
    if has_absent (presence elements)
    then header (data_offset (length elements)) (length elements) lower ++ (bitmap (presence elements) ++ (padding (length elements) ++ numbers elements))
    else header 0 (length elements) lower ++ numbers elements

-- flat bytes of an array that a variable may hold
pub record IsFlat (bytes : List ℕ) : Type 0 where
  pub array : Array
  pub held : IsHeld array
  pub bytes_are : bytes ≡ flat_bytes array
