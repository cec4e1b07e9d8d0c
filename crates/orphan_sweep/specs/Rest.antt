-- What is left of a list once numbers are taken off it, and how it is cut into groups.
use Rattle.std.specs.Prelude.{ℕ, zero, suc, ◌==◌, not, if◌then◌else◌, List, [], ◌∷◌, length, take, drop, filter}
use Rattle.std.specs.List.{list_any}

-- the numbers that are not among those found, in their order
abbrev pub less : List ℕ → List ℕ → List ℕ
less list found = filter (λ o. not (list_any (λ f. f == o) found)) list

-- consecutive pieces of `size` numbers, the last one of what is left over; `count` is no less than how many there are
abbrev pub pieces : (count size : ℕ) → List ℕ → List (List ℕ)
pieces zero size rest = []
pieces (suc count) size [] = []
pieces (suc count) size (o ∷ rest) = take size (o ∷ rest) ∷ pieces count size (drop size (o ∷ rest))

-- the numbers cut into consecutive groups of at most the limit, where a limit of 0 is none. There is no group of no numbers
abbrev pub groups : ℕ → List ℕ → List (List ℕ)
groups limit rest = pieces (length rest) (if limit == 0 then length rest else limit) rest
