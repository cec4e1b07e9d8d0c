-- Flat bytes read by position: the tests by which they are told, and the elements that they hold.
use Rattle.std.specs.Prelude.{◌+◌, ◌-◌, ◌*◌, ◌/◌, ◌%◌, ◌^◌, ℕ, zero, suc, ℤ, List, [], ◌∷◌, length, take, drop, replicate, Option, Some, None, Bool, true, false, ◌&&◌, ◌||◌, ◌==◌, nat_lt, nat_le, int_le, if◌then◌else◌, count_ones}
use Rattle.std.specs.List.{list_all}
use Rattle.std.specs.Int.{w32, from_le_bytes, cast_signed}
use Rattle.expanded_array.specs.Array.{Array, Empty, Bounded, limit, last_limit, last_of}
use Rattle.expanded_array.specs.Flat.{int4_type, bitmap_len, data_offset}

-- the number in four bytes at a place
abbrev pub word_at : List ℕ → ℕ → ℕ
word_at bytes place = from_le_bytes w32 (take 4 (drop place bytes))

abbrev pub int4_at : List ℕ → ℕ → ℤ
int4_at bytes place = cast_signed w32 (word_at bytes place)

-- the number that some bytes are the lowest-first bytes of
abbrev pub number_of_bytes : List ℕ → ℕ
number_of_bytes [] = 0
number_of_bytes (b ∷ bytes) = b + 256 * number_of_bytes bytes

-- the lowest bits of a number
abbrev pub flags_of : ℕ → ℕ → List Bool
flags_of zero n = []
flags_of (suc k) n = (n % 2 == 1) ∷ flags_of k (n / 2)

-- elements by their flags, and the numbers of those that are there one after another
abbrev pub unpacked : List Bool → List ℕ → List (Option ℤ)
unpacked [] bytes = []
unpacked (true ∷ flags) bytes = Some (int4_at bytes 0) ∷ unpacked flags (drop 4 bytes)
unpacked (false ∷ flags) bytes = None ∷ unpacked flags bytes

-- where the bitmap begins, or the elements where there is none
abbrev pub header_len : ℕ
header_len = 20

-- the flags of the elements: those of the bitmap between the header and the place where the elements begin, or all set
abbrev pub flags_in : List ℕ → ℕ → ℕ → List Bool
flags_in bytes count start = if start == header_len then replicate count true else flags_of count (number_of_bytes (take (bitmap_len count) (drop header_len bytes)))

-- the bounds of an array with elements
abbrev pub are_bounds : ℤ → ℕ → Bool
are_bounds lower count = nat_lt 0 count && nat_le count limit && int_le (last_of lower count) last_limit

-- the elements of flat bytes with this number of elements, which begin at this place
abbrev pub elements_in : List ℕ → ℕ → ℕ → List (Option ℤ)
elements_in bytes count start = unpacked (flags_in bytes count start) (drop start bytes)

-- an array of these bounds, the empty one where there are no elements
abbrev pub array_of : ℤ → List (Option ℤ) → Array
array_of lower [] = Empty
array_of lower (e ∷ elements) = Bounded lower (e ∷ elements)

-- the place of the first element, by the data offset
abbrev pub start_in : List ℕ → ℕ
start_in bytes = if word_at bytes 4 == 0 then header_len else word_at bytes 4 - 4

-- the array whose flat bytes these are
abbrev pub array_in : List ℕ → Array
array_in bytes = if word_at bytes 0 == 0 then Empty else array_of (int4_at bytes 16) (elements_in bytes (word_at bytes 12) (start_in bytes))

-- the place of the first element, where there is a bitmap
abbrev pub sparse_start : ℕ → ℕ
sparse_start count = data_offset count - 4

-- the place of the first element, by the number of elements and of those that are not null
abbrev pub first_place : ℕ → ℕ → ℕ
first_place count present = if count == 0 then 12 else if present == count then header_len else sparse_start count

-- the bitmap's number
abbrev pub bitmap_in : List ℕ → ℕ → ℕ
bitmap_in bytes count = number_of_bytes (take (bitmap_len count) (drop header_len bytes))

-- the padding
abbrev pub padding_in : List ℕ → ℕ → List ℕ
padding_in bytes count = take (sparse_start count - (header_len + bitmap_len count)) (drop (header_len + bitmap_len count) bytes)

-- bytes of the empty array
abbrev pub is_empty_layout : List ℕ → Bool
is_empty_layout bytes = (length bytes == 12) && (word_at bytes 0 == 0) && (word_at bytes 4 == 0) && (word_at bytes 8 == int4_type)

-- bytes that begin with a header of one dimension, the type and bounds that an array may have
abbrev pub has_header : List ℕ → Bool
has_header bytes = nat_le header_len (length bytes) && (word_at bytes 0 == 1) && (word_at bytes 8 == int4_type) && are_bounds (int4_at bytes 16) (word_at bytes 12)

-- bytes of an array with elements, none of them null
abbrev pub is_plain_layout : List ℕ → Bool
is_plain_layout bytes = has_header bytes && (word_at bytes 4 == 0) && (length bytes == header_len + 4 * word_at bytes 12)

-- a bitmap that says some null and has no bit set behind its last element, padding of zeros, and a number for each bit that is set
abbrev pub has_sparse_body : List ℕ → ℕ → Bool
has_sparse_body bytes count =
    nat_le (sparse_start count) (length bytes)
    && nat_lt (bitmap_in bytes count) (2 ^ count)
    && nat_lt (count_ones (bitmap_in bytes count)) count
    && list_all (λ b. b == 0) (padding_in bytes count)
    && (length bytes == sparse_start count + 4 * count_ones (bitmap_in bytes count))

-- bytes of an array with elements, some of them null
abbrev pub is_sparse_layout : List ℕ → Bool
is_sparse_layout bytes = has_header bytes && (word_at bytes 4 == data_offset (word_at bytes 12)) && has_sparse_body bytes (word_at bytes 12)

abbrev pub is_flat_layout : List ℕ → Bool
is_flat_layout bytes = is_empty_layout bytes || is_plain_layout bytes || is_sparse_layout bytes
