use Rattle.std.specs.Prelude.{ℕ, ◌-◌, Bool, false, not, ◌==◌, ◌&&◌, nat_le, List, map, filter, if◌then◌else◌}
use Rattle.lo_model.specs.declared.owner.Owner.{Owner}
use Rattle.lo_model.specs.declared.owner.Owner.TheVariants.{Running, Committed}
use Rattle.lo_model.specs.Edit.{Edit}

-- What the end of a level or of a transaction makes of the edits. (Manual, SAVEPOINT, RELEASE SAVEPOINT, ROLLBACK TO
-- SAVEPOINT, COMMIT and ROLLBACK.)

-- whether an owner is a session's open transaction, at a level or above it
abbrev pub is_from_level : (session level : ℕ) → Owner → Bool
is_from_level s k (Running t l) = (t == s) && nat_le k l
is_from_level s k (Committed c) = false

-- an edit of another owner
abbrev pub owned_by : {D : Type 0} → (Owner → Owner) → Edit D → Edit D
owned_by change e = record { clock = e.clock; owner = change e.owner; deed = e.deed }

-- A release of a level gives the edits of that level and all above it to the level below it.
abbrev pub released_owner : (session level : ℕ) → Owner → Owner
released_owner s k owner = if is_from_level s k owner then Running s (k - 1) else owner

abbrev pub released : {D : Type 0} → (session level : ℕ) → List (Edit D) → List (Edit D)
released s k edits = map (owned_by (released_owner s k)) edits

-- An undoing of a level takes the edits of that level and all above it out of the list.
abbrev pub stays : {D : Type 0} → (session level : ℕ) → Edit D → Bool
stays s k e = not (is_from_level s k e.owner)

abbrev pub undone : {D : Type 0} → (session level : ℕ) → List (Edit D) → List (Edit D)
undone s k edits = filter (stays s k) edits

-- A commit gives all open edits of a session to the clock of the commit.
abbrev pub committed_owner : (session clock : ℕ) → Owner → Owner
committed_owner s clock owner = if is_from_level s 0 owner then Committed clock else owner

abbrev pub committed : {D : Type 0} → (session clock : ℕ) → List (Edit D) → List (Edit D)
committed s clock edits = map (owned_by (committed_owner s clock)) edits

-- An abort undoes level 1, which is the whole transaction.
abbrev pub aborted : {D : Type 0} → (session : ℕ) → List (Edit D) → List (Edit D)
aborted s edits = undone s 1 edits
