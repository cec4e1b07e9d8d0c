-- What the beginning and the end of a level, or of a transaction, do to the transactions.
use Rattle.std.specs.Prelude.{ℕ, ◌+◌, ◌≤◌, ◌≡◌, List, [], ◌∷◌, ◌++◌, length, take, Option, Some, None, option_and_then, if◌then◌else◌}
use Rattle.lo_model.specs.declared.owner.Owner.{Owner}
use Rattle.lo_model.specs.Levels.{is_from_level, released_owner, committed_owner}
use Rattle.xact_core.specs.declared.stamp.Stamp.{Stamp}
use Rattle.xact_core.specs.Kept.{kept_views}
use Rattle.xact_core.specs.Stamp.{owner_of, IsIssued}
use Rattle.xact_core.specs.Transactions.{Transactions, levels_of, HasLevels}

-- Each stamp that was given now belongs to what is made of its owner, and those that were undone stay undone.
pub record Turns (turn : Owner → Option Owner) (old new : Transactions) : Type 0 where
  pub owners : (st : Stamp) → IsIssued old st → owner_of new st ≡ option_and_then turn (owner_of old st)
  pub issued : (st : Stamp) → IsIssued old st → IsIssued new st

-- an owner as it was
abbrev pub same : Owner → Option Owner
same owner = Some owner

-- what a release of a level makes of an owner, by the rule of levels
abbrev pub release : (session level : ℕ) → Owner → Option Owner
release s k owner = Some (released_owner s k owner)

-- what an undoing of a level makes of it: nobody where it is from that level
abbrev pub undo : (session level : ℕ) → Owner → Option Owner
undo s k owner = if is_from_level s k owner then None else Some owner

-- what a commit at a clock makes of it
abbrev pub commit_at : (session clock : ℕ) → Owner → Option Owner
commit_at s c owner = Some (committed_owner s c owner)

-- A session has one level more, with a name or none. No owner changes, nor the clock nor what is held. At most two views
-- more are kept: the one below the new level, and the session's whole one where it is the first.
pub record Opens (session : ℕ) (name : Option (List ℕ)) (old new : Transactions) : Type 0 where
  pub levels : HasLevels session (levels_of old session ++ name ∷ []) old new
  pub owners : Turns same old new
  pub clock : new.clock ≡ old.clock
  pub undos : new.undos ≡ old.undos
  pub held : new.held ≡ old.held
  pub views : length (kept_views new) ≤ length (kept_views old) + 2

-- An end of a session's levels but the first ones, or of its transaction, of which no level is left: what it makes of
-- each owner. Neither the clock changes nor what is held, and no view more is kept.
pub record Ends (turn : Owner → Option Owner) (session left : ℕ) (old new : Transactions) : Type 0 where
  pub levels : HasLevels session (take left (levels_of old session)) old new
  pub owners : Turns turn old new
  pub clock : new.clock ≡ old.clock
  pub held : new.held ≡ old.held
  pub views : length (kept_views new) ≤ length (kept_views old)
