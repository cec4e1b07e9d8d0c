-- Programs: each session's list of requests.
use Rattle.std.specs.Prelude.{◌≡◌, ℕ, ◌-◌, Bool, true, false, List, [], ◌∷◌, slice_index_or}
use Rattle.lo_base.specs.declared.request.Request.{Request}
use Rattle.lo_base.specs.declared.request.Request.TheVariants.{Vacuumlo, Step, Finish}

-- A session's program is its list of requests, in order. Programs are given for all sessions, from session 1 on.
abbrev pub program_of : List (List Request) → (session : ℕ) → List Request
program_of programs s = slice_index_or programs (s - 1) []

-- A clean-up's line is followed by any number of steps, and by one finish, which may still be missing at the end. Steps and
-- finishes stand nowhere else, and nothing else stands between.
abbrev pub has_sweeps : (in_sweep : Bool) → List Request → Bool
has_sweeps in_sweep [] = true
has_sweeps false (Vacuumlo dry limit ∷ lines) = has_sweeps true lines
has_sweeps false (Step ∷ lines) = false
has_sweeps false (Finish ∷ lines) = false
has_sweeps false (request ∷ lines) = has_sweeps false lines
has_sweeps true (Step ∷ lines) = has_sweeps true lines
has_sweeps true (Finish ∷ lines) = has_sweeps false lines
has_sweeps true (request ∷ lines) = false

abbrev pub IsProgram : List Request → Type 0
IsProgram lines = has_sweeps false lines ≡ true
