-- The text of an array (PostgreSQL manual, Arrays, Array Input and Output Syntax).
use Rattle.std.specs.Prelude.{◌≡◌, ℕ, zero, suc, ℤ, pos, List, [], ◌∷◌, ◌++◌, length, Option, Some, None, codes, if◌then◌else◌}
use Rattle.std.specs.Fmt.{signed_decimal}
use Rattle.std.specs.Ordering.{int_eq}
use Rattle.expanded_array.specs.Array.{Array, Empty, Bounded, elements_of, last_of}

abbrev pub element_text : Option ℤ → List ℕ
element_text None = codes "NULL"
element_text (Some z) = signed_decimal z

-- elements, each with a comma before it
abbrev pub with_commas : List (Option ℤ) → List ℕ
with_commas [] = []
with_commas (e ∷ elements) = codes "," ++ element_text e ++ with_commas elements

-- elements joined by commas
abbrev pub joined : List (Option ℤ) → List ℕ
joined [] = []
joined (e ∷ elements) = element_text e ++ with_commas elements

-- the bounds as they are written
abbrev pub explicit_bounds : ℤ → ℕ → List ℕ
explicit_bounds lower count = codes "[" ++ signed_decimal lower ++ codes ":" ++ signed_decimal (last_of lower count) ++ codes "]="

-- the bounds, which are printed where the lower one is not 1
abbrev pub bounds_text : ℤ → ℕ → List ℕ
bounds_text lower count = if int_eq lower (pos 1) then [] else explicit_bounds lower count

abbrev pub bounds_of : Array → List ℕ
bounds_of Empty = []
bounds_of (Bounded lower elements) = bounds_text lower (length elements)

abbrev pub array_text : Array → List ℕ
array_text a = bounds_of a ++ codes "{" ++ joined (elements_of a) ++ codes "}"

-- the text of an element behind so many others, with the comma before it
abbrev pub next_text : ℕ → Option ℤ → List ℕ
next_text zero e = element_text e
next_text (suc k) e = codes "," ++ element_text e

-- the text of the elements behind so many others
abbrev pub left_text : ℕ → List (Option ℤ) → List ℕ
left_text zero elements = joined elements
left_text (suc k) elements = with_commas elements

-- a text is written up to what is left of it
pub record IsAhead (old now left whole : List ℕ) : Type 0 where
  pub front : List ℕ
  pub written : now ≡ old ++ front
  pub behind : front ++ left ≡ whole
