use Rattle.std.specs.Prelude.{ℕ, Bool, List, [], ◌∷◌, Option, Some, None, if◌then◌else◌, map}

-- For each column of a row, `stored` is none where the value lies in the row, or the clock at which the value was moved
-- out of it as it now stands.

-- a value that is stored anew at a clock: none in the row, the clock outside
abbrev pub moved_out : ℕ → Bool → Option ℕ
moved_out clock outside = if outside then Some clock else None

-- An insert and a rewrite store every value anew. `outside` tells for each column whether its value lies outside.
abbrev pub stored_anew : ℕ → List Bool → List (Option ℕ)
stored_anew clock outside = map (moved_out clock) outside

-- a value that was outside and stays outside keeps its entry
abbrev pub kept_outside : ℕ → Bool → Option ℕ → Option ℕ
kept_outside clock outside None = moved_out clock outside
kept_outside clock outside (Some old) = if outside then Some old else None

-- An update keeps the entry of a column that it does not name, where the value was outside and stays outside; it stores
-- every other value anew (manual, TOAST: an update leaves out-of-line values of unchanged columns as they are).
abbrev pub stored_after_update : ℕ → (outside named : List Bool) → (old : List (Option ℕ)) → List (Option ℕ)
stored_after_update clock (o ∷ outside) (n ∷ named) (s ∷ old) =
    (if n then moved_out clock o else kept_outside clock o s) ∷ stored_after_update clock outside named old
stored_after_update clock _ _ _ = []
