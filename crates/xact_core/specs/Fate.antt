-- What the end of levels makes of fates, one by one and at some places.
use Rattle.std.specs.Prelude.{ℕ, Bool, false, List, [], ◌∷◌, Option, Some, None, option_and_then, slice_get, slice_set}
use Rattle.lo_model.specs.declared.owner.Owner.{Owner}
use Rattle.lo_model.specs.Levels.{is_from_level}
use Rattle.xact_core.specs.declared.fate.Fate.{Fate}
use Rattle.xact_core.specs.declared.fate.End.{End}
use Rattle.xact_core.specs.declared.fate.End.TheVariants.{Released, Undone, Committed}
use Rattle.xact_core.specs.Ends.{release, undo, commit_at}

-- whether an owner, if there is one, is a session's open transaction, at a level or above it
abbrev pub is_some_from : (session level : ℕ) → Option Owner → Bool
is_some_from s k None = false
is_some_from s k (Some owner) = is_from_level s k owner

-- what an end makes of an owner
abbrev pub owner_after : End → Owner → Option Owner
owner_after (Released s k) owner = release s k owner
owner_after (Undone s k) owner = undo s k owner
owner_after (Committed s c) owner = commit_at s c owner

-- what is made of a fate by what is made of its owner
abbrev pub fate_after : (Owner → Option Owner) → Fate → Fate
fate_after turn fate = record { owner = option_and_then turn fate.owner; since = fate.since }

abbrev pub turned_one : (Fate → Fate) → ℕ → Option Fate → List Fate → List Fate
turned_one f i None fates = fates
turned_one f i (Some fate) fates = slice_set fates i (f fate)

-- the fates after those at some places were turned, one after the other
abbrev pub turned_at : (Fate → Fate) → List ℕ → List Fate → List Fate
turned_at f [] fates = fates
turned_at f (i ∷ is) fates = turned_at f is (turned_one f i (slice_get fates i) fates)

-- the same, by what is made of their owners
abbrev pub turned_by : (Owner → Option Owner) → List ℕ → List Fate → List Fate
turned_by turn places fates = turned_at (fate_after turn) places fates
