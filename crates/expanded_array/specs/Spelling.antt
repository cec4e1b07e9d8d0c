-- Which text is read as which array (PostgreSQL manual, Arrays, Array Input and Output Syntax).
use Rattle.std.specs.Prelude.{◌≡◌, ◌<◌, ◌≤ℤ◌, ◌⊎◌, ◌==◌, ℕ, ℤ, pos, List, [], ◌++◌, length, map, Option, Some, None, Result, Ok, Err, Bool, codes, slice_index, FitsSigned, ⊤}
use Rattle.std.specs.Int.{w32}
use Rattle.std.specs.Char.{to_ascii_lowercase}
use Rattle.std.specs.List.{AllZip, slice_split}
use Rattle.std.specs.Str.Parse.{IsNumeral, signed_digits_value, without_leading_sign}
use Rattle.lo_base.specs.declared.refusal.Cause.TheVariants.{BadArray}
use Rattle.lo_base.specs.declared.refusal.Denied.{Denied}
use Rattle.lo_base.specs.declared.refusal.Denied.TheVariants.{By, NoMemory}
use Rattle.lo_base.specs.declared.refusal.Refusal.{Refusal}
use Rattle.expanded_array.specs.Array.{Array, Empty, Bounded, last_of, last_limit, limit, size_of}
use Rattle.expanded_array.specs.Text.{explicit_bounds}
use Rattle.expanded_array.specs.Answer.{too_big}

-- an element: NULL in letters of either case, or an optional sign and decimal digits, leading zeros too, of an int4
abbrev pub SpellsElement : List ℕ → Option ℤ → Type 0
SpellsElement bytes None = map to_ascii_lowercase bytes ≡ codes "null"
SpellsElement bytes (Some z) = IsNumeral 10 (without_leading_sign bytes) × FitsSigned w32 z × (z ≡ signed_digits_value 10 bytes)

abbrev pub is_comma : ℕ → Bool
is_comma b = b == 44

-- elements, one between two commas
abbrev pub SpellsElements : List ℕ → List (Option ℤ) → Type 0
SpellsElements bytes elements = AllZip SpellsElement (slice_split is_comma bytes) elements

-- bounds of so many elements: none where the lower one is 1, or both of them, as decimals without a plus sign or leading zeros
abbrev pub SpellsBounds : List ℕ → ℤ → ℕ → Type 0
SpellsBounds bytes lower count = ((bytes ≡ []) × (lower ≡ pos 1)) ⊎ (bytes ≡ explicit_bounds lower count)

-- the text of an array with elements: its bounds, and the elements in braces
pub record SpellsBounded (text : List ℕ) (lower : ℤ) (elements : List (Option ℤ)) : Type 0 where
  pub bounds : List ℕ
  pub body : List ℕ
  pub whole : text ≡ bounds ++ codes "{" ++ body ++ codes "}"
  pub bounds_are : SpellsBounds bounds lower (length elements)
  pub elements_are : SpellsElements body elements
  pub int4 : FitsSigned w32 lower
  pub last : last_of lower (length elements) ≤ℤ last_limit

-- the text spells the array
abbrev pub Spells : List ℕ → Array → Type 0
Spells text Empty = text ≡ codes "{}"
Spells text (Bounded lower elements) = SpellsBounded text lower elements

-- the refusal of a text that spells no array
abbrev pub malformed : Refusal
malformed = record { cause = BadArray; subject = pos 0 }

-- the text spells an array of too many elements, and the refusal says how many
pub record IsTooBig (text : List ℕ) (refusal : Refusal) : Type 0 where
  pub array : Array
  pub spelled : Spells text array
  pub many : limit < size_of array
  pub names : refusal ≡ too_big (size_of array)

-- a text is denied by want of memory, because it spells no array, or because it spells one of too many elements
abbrev pub IsTextDenial : List ℕ → Denied → Type 0
IsTextDenial text NoMemory = ⊤
IsTextDenial text (By refusal) = ((refusal ≡ malformed) × ((a : Array) → Spells text a → ⊥)) ⊎ IsTooBig text refusal

-- the text spells no array with elements
abbrev pub SpellsNone : List ℕ → Type 0
SpellsNone text = (lower : ℤ) (elements : List (Option ℤ)) → SpellsBounded text lower elements → ⊥

-- the same of a text that is not the empty array's
abbrev pub IsBoundedDenial : List ℕ → Denied → Type 0
IsBoundedDenial text NoMemory = ⊤
IsBoundedDenial text (By refusal) = ((refusal ≡ malformed) × SpellsNone text) ⊎ IsTooBig text refusal

-- the array is read, unless there is no memory
abbrev pub ReadsAgain : Array → Result Array Denied → Type 0
ReadsAgain a (Ok b) = b ≡ a
ReadsAgain a (Err NoMemory) = ⊤
ReadsAgain a (Err (By refusal)) = ⊥

-- some bytes are read up to a rest: the elements of a front of them
pub record HasRead (whole rest : List ℕ) (elements : List (Option ℤ)) : Type 0 where
  pub front : List (List ℕ)
  pub split : slice_split is_comma whole ≡ front ++ slice_split is_comma rest
  pub each : AllZip SpellsElement front elements

-- the parts behind a comma, if there is one
abbrev pub parts_behind : Option (List ℕ) → List (List ℕ)
parts_behind None = []
parts_behind (Some bytes) = slice_split is_comma bytes

abbrev pub HasNoBrace : List ℕ → Type 0
HasNoBrace bytes = (k : ℕ) → k < length bytes → slice_index bytes k ≡ 123 → ⊥

abbrev pub HasNoColon : List ℕ → Type 0
HasNoColon bytes = (k : ℕ) → k < length bytes → slice_index bytes k ≡ 58 → ⊥

-- a text cut at its first opening brace
pub record SplitsAtBrace (text before behind : List ℕ) : Type 0 where
  pub whole : text ≡ before ++ (codes "{" ++ behind)
  pub first : HasNoBrace before

-- a text with these bytes between its braces, parts between commas, whose bounds are those of as many elements
pub record HasBody (text : List ℕ) (lower : ℤ) (count : ℕ) (body : List ℕ) : Type 0 where
  pub bounds : List ℕ
  pub whole : text ≡ bounds ++ (codes "{" ++ (body ++ codes "}"))
  pub first : HasNoBrace bounds
  pub bounds_are : SpellsBounds bounds lower count
  pub int4 : FitsSigned w32 lower
  pub last : last_of lower count ≤ℤ last_limit
  pub parts : count ≡ length (slice_split is_comma body)
