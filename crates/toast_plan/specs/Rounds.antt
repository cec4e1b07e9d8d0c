-- The rounds as the code names them, and the first of some candidates.
use Rattle.std.specs.Prelude.{ℕ, ◌≤◌, ◌^◌, All, IfSome, Bool, if◌then◌else◌, List, [], ◌∷◌, Option, Some, None}
use Rattle.lo_base.specs.declared.column.Storage.{Storage}
use Rattle.toast_plan.specs.declared.choosing.Round.{Round}
use Rattle.toast_plan.specs.declared.choosing.Round.TheVariants.{First, Second}
use Rattle.toast_plan.specs.declared.choosing.Candidate.{Candidate as Found}
use Rattle.toast_plan.specs.Choice.{Candidate, moves_first, moves_second, goes_before}

abbrev pub moves_in : Round → Storage → Bool
moves_in First s = moves_first s
moves_in Second s = moves_second s

abbrev pub seen : Found → Candidate
seen c = record { place = c.place; bytes = c.bytes }

-- the one of two candidates that goes before the other
abbrev pub better_of : Candidate → Option Candidate → Option Candidate
better_of best None = Some best
better_of best (Some a) = Some (if goes_before a best then a else best)

abbrev pub chosen_of : Option Candidate → Option Candidate → Option Candidate
chosen_of None found = found
chosen_of (Some best) found = better_of best found

-- the first of the candidates and of the best so far
abbrev pub first_of : Option Candidate → List Candidate → Option Candidate
first_of best [] = best
first_of best (a ∷ all) = first_of (chosen_of best (Some a)) all

-- no value is longer than a value can be
abbrev pub AreShort : List (Option ℕ) → Type 0
AreShort ns = All (λ n. IfSome n (λ b. b ≤ 2 ^ 24)) ns
