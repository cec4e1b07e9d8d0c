-- Looking a file up by its name, among the places and among what they hold.
use Rattle.std.proofs.Common.{◌≡◌, ℕ, List, [], ◌∷◌, true, false, cond, refl, Some, map, find}
use Rattle.std.specs.Option.{option_map}
use Rattle.lo_outside.specs.MemFiles.{file_of, is_named, file_named}
use Rattle.lo_outside.specs.Place.{Held, named_of, has_name, file_in}

pub found : (name : List ℕ) (places : List Held) → file_named name (map named_of places) ≡ option_map file_in (find (has_name name) places)
found name [] = refl
found name (place ∷ places) =
    elim (has_name name place) as (λ b. option_map file_of (cond b (Some place.named) (find (is_named name) (map named_of places))) ≡ option_map file_in (cond b (Some place) (find (has_name name) places)))
    [ true ↦ refl | false ↦ found name places ]
