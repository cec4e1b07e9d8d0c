-- What the loop over tables carries.
use Rattle.std.specs.Prelude.{ℕ, List, [], ◌∷◌, Option, Some, None}
use Rattle.lo_image.specs.declared.place.TableCells.{TableCells}
use Rattle.lo_image.specs.Reading.{TablePlace}

abbrev pub place_of : Option (List ℕ) → ℕ → ℕ → TablePlace
place_of last table value = record { last = last; table = table; value = value }

-- the name of the last table
abbrev pub last_name : List TableCells → Option (List ℕ)
last_name [] = None
last_name (t ∷ []) = Some t.name
last_name (t ∷ u ∷ ts) = last_name (u ∷ ts)
