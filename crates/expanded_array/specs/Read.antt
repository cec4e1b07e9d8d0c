-- The array that a text spells, computed (PostgreSQL manual, Arrays, Array Input and Output Syntax).
use Rattle.std.specs.Prelude.{ℕ, ℤ, pos, negsuc, ◌-◌, ◌==◌, ◌&&◌, nat_lt, int_le, if◌then◌else◌, Bool, List, [], ◌∷◌, ◌++◌, length, take, map, codes, bytes_eq, Option, Some, None, is_some, option_map}
use Rattle.std.specs.Char.{to_ascii_lowercase, digit_value}
use Rattle.std.specs.List.{list_all, slice_split, before_first, after_first}
use Rattle.std.specs.Option.{option_and_then}
use Rattle.std.specs.Str.Parse.{signed_digits_value, without_leading_sign}
use Rattle.lo_base.specs.declared.refusal.Refusal.{Refusal}
use Rattle.expanded_array.specs.Answer.{too_big}
use Rattle.expanded_array.specs.Array.{Array, Empty, Bounded, last_of, last_limit, limit, size_of}
use Rattle.expanded_array.specs.Text.{explicit_bounds}
use Rattle.expanded_array.specs.Spelling.{is_comma, malformed}

-- one decimal digit or more
abbrev pub is_numeral : List ℕ → Bool
is_numeral digits = nat_lt 0 (length digits) && list_all (λ c. nat_lt (digit_value c) 10) digits

abbrev pub is_int4 : ℤ → Bool
is_int4 z = int_le (negsuc 2147483647) z && int_le z (pos 2147483647)

-- the int4 that a sign and digits write
abbrev pub number_of : List ℕ → Option ℤ
number_of bytes = if is_numeral (without_leading_sign bytes) && is_int4 (signed_digits_value 10 bytes) then Some (signed_digits_value 10 bytes) else None

abbrev pub element_of : List ℕ → Option (Option ℤ)
element_of bytes = if bytes_eq (map to_ascii_lowercase bytes) (codes "null") then Some None else option_map (λ z. Some z) (number_of bytes)

abbrev pub is_element : List ℕ → Bool
is_element bytes = is_some (element_of bytes)

-- the elements of parts, if each of them spells one
abbrev pub elements_of_parts : List (List ℕ) → Option (List (Option ℤ))
elements_of_parts [] = Some []
elements_of_parts (part ∷ parts) = option_and_then (λ e. option_map (λ es. e ∷ es) (elements_of_parts parts)) (element_of part)

-- a lower bound, where these are the bounds of so many elements from it on
abbrev pub if_bounds : List ℕ → ℕ → ℤ → Option ℤ
if_bounds bytes count lower = if bytes_eq bytes (explicit_bounds lower count) then Some lower else None

-- the lower bound of so many elements: 1 where no bounds are written
abbrev pub lower_of_bounds : List ℕ → ℕ → Option ℤ
lower_of_bounds [] count = Some (pos 1)
lower_of_bounds (b ∷ bytes) count = option_and_then (if_bounds (b ∷ bytes) count) (number_of (before_first (λ c. c == 58) bytes))

-- the array of these elements from a lower bound on, if there is one
abbrev pub array_from : List (Option ℤ) → ℤ → Option Array
array_from elements lower = if int_le (last_of lower (length elements)) last_limit then Some (Bounded lower elements) else None

-- the array with these bounds and elements, with these bytes between its braces, and with these behind the opening one
abbrev pub array_with : List ℕ → List (Option ℤ) → Option Array
array_with bounds elements = option_and_then (array_from elements) (lower_of_bounds bounds (length elements))

abbrev pub array_between : List ℕ → List ℕ → Option Array
array_between bounds body = option_and_then (array_with bounds) (elements_of_parts (slice_split is_comma body))

abbrev pub before_brace : List ℕ → Option (List ℕ)
before_brace behind = if bytes_eq behind (take (length behind - 1) behind ++ codes "}") then Some (take (length behind - 1) behind) else None

abbrev pub array_behind : List ℕ → List ℕ → Option Array
array_behind bounds behind = option_and_then (array_between bounds) (before_brace behind)

-- the array that a text spells, of any number of elements. There is none where the text is malformed
abbrev pub array_of_text : List ℕ → Option Array
array_of_text text = if bytes_eq text (codes "{}") then Some Empty else array_behind (before_first (λ c. c == 123) text) (after_first (λ c. c == 123) text)

-- why an array is refused, if it is
abbrev pub size_refusal : Array → Option Refusal
size_refusal a = if nat_lt limit (size_of a) then Some (too_big (size_of a)) else None

-- why a text is refused as that of a variable's array, if it is
abbrev pub refusal_of_array : Option Array → Option Refusal
refusal_of_array None = Some malformed
refusal_of_array (Some a) = size_refusal a

abbrev pub text_refusal : List ℕ → Option Refusal
text_refusal text = refusal_of_array (array_of_text text)
