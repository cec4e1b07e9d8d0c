-- The transactions as contracts see them, the levels of a session, and names of levels.
use Rattle.std.specs.Prelude.{ℕ, zero, suc, ◌-◌, ◌≤◌, ◌≡◌, ◌≢◌, List, [], Option, Some, replicate, slice_get, slice_set, slice_index_or, MatchOption}
use Rattle.xact_core.specs.declared.fate.Fate.{Fate}
use Rattle.xact_core.specs.declared.snapshot.Snapshot.{Snapshot}

-- What contracts see of the transactions. `levels` has the names of each session's levels, session 1 first: none
-- outside a transaction, and level 1 has no name. `undos` counts the undoings of levels. `fates` tells, for each level
-- that was ever begun, whose the edits are now that were made in it. `held` are the views that are held for readers.
pub record Transactions : Type 0 where
  pub clock : ℕ
  pub undos : ℕ
  pub levels : List (List (Option (List ℕ)))
  pub fates : List Fate
  pub held : List Snapshot

-- sixteen sessions at clock 0, of which none has a transaction
abbrev pub beginning : Transactions
beginning = record { clock = 0; undos = 0; levels = replicate 16 []; fates = []; held = [] }

-- the names of a session's levels, from level 1 on. Numbers of sessions begin at 1, so session 0 has none
abbrev pub levels_of : Transactions → (session : ℕ) → List (Option (List ℕ))
levels_of x zero = []
levels_of x (suc i) = slice_index_or x.levels i []

-- One of the sixteen sessions has these levels, and every other one those that it had.
pub record HasLevels (session : ℕ) (names : List (Option (List ℕ))) (old new : Transactions) : Type 0 where
  pub low : 1 ≤ session
  pub high : session ≤ 16
  pub levels : new.levels ≡ slice_set old.levels (session - 1) names
  pub own : levels_of new session ≡ names
  pub others : (t : ℕ) → t ≢ session → levels_of new t ≡ levels_of old t

-- no level has the name
pub record HasNo (levels : List (Option (List ℕ))) (name : List ℕ) : Type 0 where
  pub none : (i : ℕ) → slice_get levels i ≢ Some (Some name)

-- the level, counted from 1, is the newest of those with the name: it has the name, and none above it has
pub record IsNewest (levels : List (Option (List ℕ))) (name : List ℕ) (level : ℕ) : Type 0 where
  pub positive : 1 ≤ level
  pub named : slice_get levels (level - 1) ≡ Some (Some name)
  pub none_above : (i : ℕ) → level ≤ i → slice_get levels i ≢ Some (Some name)

-- the newest level with a name, where there is one
abbrev pub FindsNewest : List (Option (List ℕ)) → (name : List ℕ) → Option ℕ → Type 0
FindsNewest levels name found = MatchOption found (HasNo levels name) (IsNewest levels name)
