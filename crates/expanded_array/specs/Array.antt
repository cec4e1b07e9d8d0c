-- Arrays of int4 with one dimension (PostgreSQL manual, Arrays): their bounds, elements and changes.
use Rattle.std.specs.Prelude.{◌<◌, ◌≤◌, ◌+◌, ◌-◌, ℕ, ℤ, pos, negsuc, max, ◌+ℤ◌, ◌-ℤ◌, ◌≤ℤ◌, List, [], ◌∷◌, ◌++◌, length, replicate, slice_set, slice_index_or, Option, Some, None, IfSome, All, if◌then◌else◌, nat_lt, int_lt, FitsSigned}
use Rattle.std.specs.Int.{w32}

-- an array: empty, or a lower bound and its elements, each a number or null
pub data Array : Type 0 where
  Empty : Array
  Bounded : (lower : ℤ) → (elements : List (Option ℤ)) → Array

abbrev pub elements_of : Array → List (Option ℤ)
elements_of Empty = []
elements_of (Bounded lower elements) = elements

-- the number of elements
abbrev pub size_of : Array → ℕ
size_of a = length (elements_of a)

-- the most elements that an array may have
abbrev pub limit : ℕ
limit = 1048576

-- the greatest last subscript
abbrev pub last_limit : ℤ
last_limit = pos 2147483646

-- the subscript of the last of some elements that begin at a lower bound
abbrev pub last_of : ℤ → ℕ → ℤ
last_of lower count = (lower +ℤ pos count) -ℤ pos 1

-- bounds and elements of an array that is not empty: int4 all of them, with a last subscript that is not too great
pub record HasBounds (lower : ℤ) (elements : List (Option ℤ)) : Type 0 where
  pub some : 0 < length elements
  pub int4 : FitsSigned w32 lower
  pub last : last_of lower (length elements) ≤ℤ last_limit
  pub numbers : All (λ e. IfSome e (FitsSigned w32)) elements

-- an array of int4 of any number of elements
abbrev pub IsArray : Array → Type 0
IsArray Empty = Unit {0}
IsArray (Bounded lower elements) = HasBounds lower elements

-- an array that a variable may hold
pub record IsHeld (a : Array) : Type 0 where
  pub array : IsArray a
  pub few : size_of a ≤ limit

-- the element so far above the lower bound, null outside the bounds
abbrev pub element_above : List (Option ℤ) → ℤ → Option ℤ
element_above elements (pos k) = slice_index_or elements k None
element_above elements (negsuc k) = None

-- the element at a subscript, null outside the bounds
abbrev pub element_at : Array → ℤ → Option ℤ
element_at Empty sub = None
element_at (Bounded lower elements) sub = element_above elements (sub -ℤ lower)

-- the index of a subscript, where it lies within the bounds
abbrev pub index_above : ℤ → ℕ → Option ℕ
index_above (pos k) count = if nat_lt k count then Some k else None
index_above (negsuc k) count = None

abbrev pub index_in : ℤ → ℤ → ℕ → Option ℕ
index_in sub lower count = index_above (sub -ℤ lower) count

-- the elements once the one so far above the lower bound is set: where it lies outside, they reach up or down to it, and
-- those between are null
abbrev pub elements_set : List (Option ℤ) → ℤ → Option ℤ → List (Option ℤ)
elements_set elements (pos k) value = slice_set (elements ++ replicate (k + 1 - length elements) None) k value
elements_set elements (negsuc k) value = value ∷ replicate k None ++ elements

-- the lower of two bounds
abbrev pub lower_bound : ℤ → ℤ → ℤ
lower_bound lower sub = if int_lt sub lower then sub else lower

-- an array with one element set. The first one set in the empty array takes its subscript as the lower bound
abbrev pub array_set : Array → ℤ → Option ℤ → Array
array_set Empty sub value = Bounded sub (value ∷ [])
array_set (Bounded lower elements) sub value = Bounded (lower_bound lower sub) (elements_set elements (sub -ℤ lower) value)

-- why a subscript can't be set: the number of elements that is too many, where there is one. Beyond the last subscript
-- it is one more than the limit
abbrev pub excess : Array → ℤ → Option ℕ
excess a sub = if int_lt last_limit sub then Some (limit + 1) else if nat_lt limit (size_of (array_set a sub None)) then Some (size_of (array_set a sub None)) else None

-- the number of elements once the one so far above the lower bound is set
abbrev pub size_set : ℤ → ℕ → ℕ
size_set (pos k) count = max count (k + 1)
size_set (negsuc k) count = count + (k + 1)
