-- Transaction blocks. (Manual, BEGIN, SAVEPOINT, RELEASE SAVEPOINT and ROLLBACK TO SAVEPOINT.)
use Rattle.std.specs.Prelude.{ℕ, ◌+◌, ◌-◌, Bool, true, false, List, [], ◌∷◌, ◌++◌, length, take, Option, Some, None, bytes_eq, if◌then◌else◌}

-- A session is outside a transaction block, which is to have no levels, or in one: level 1 without a name, and one more for
-- each savepoint. A block is failed after a refusal in it, until it ends or a rollback to one of its savepoints.
pub record Transaction : Type 0 where
  pub levels : List (Option (List ℕ))
  pub failed : Bool

abbrev pub no_transaction : Transaction
no_transaction = record { levels = []; failed = false }

-- a transaction at its beginning
abbrev pub new_transaction : Transaction
new_transaction = record { levels = None ∷ []; failed = false }

-- the number of the top level, or 0 outside a transaction
abbrev pub top_level : Transaction → ℕ
top_level t = length t.levels

abbrev pub has_levels : List (Option (List ℕ)) → Bool
has_levels [] = false
has_levels (level ∷ levels) = true

abbrev pub is_open : Transaction → Bool
is_open t = has_levels t.levels

-- with one level more, that of a savepoint
abbrev pub with_savepoint : (name : List ℕ) → Transaction → Transaction
with_savepoint name t = record { levels = t.levels ++ Some name ∷ []; failed = t.failed }

-- A release of a level makes it and all above it one with the level below it.
abbrev pub transaction_released : (level : ℕ) → Transaction → Transaction
transaction_released k t = record { levels = take (k - 1) t.levels; failed = t.failed }

-- An undoing of a level drops the levels above it, and the block is failed from then on, or not.
abbrev pub transaction_undone : (level : ℕ) → (failed : Bool) → Transaction → Transaction
transaction_undone k failed t = record { levels = take k t.levels; failed = failed }

abbrev pub is_named : (name : List ℕ) → Option (List ℕ) → Bool
is_named name None = false
is_named name (Some other) = bytes_eq other name

-- the first, if there is one, and else the second
abbrev pub or_else : Option ℕ → Option ℕ → Option ℕ
or_else None second = second
or_else (Some level) second = Some level

-- the newest level with a name, of those above some number of levels
abbrev pub newest_above : (below : ℕ) → (name : List ℕ) → List (Option (List ℕ)) → Option ℕ
newest_above below name [] = None
newest_above below name (level ∷ levels) =
    or_else (newest_above (below + 1) name levels) (if is_named name level then Some (below + 1) else None)

-- the newest level with a name, counted from 1
abbrev pub newest : (name : List ℕ) → List (Option (List ℕ)) → Option ℕ
newest name levels = newest_above 0 name levels
