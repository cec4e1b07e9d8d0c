-- A session's open levels with the places of their fates, and what the beginning and the end of levels make of them. No
-- public contract names what stands here.
use Rattle.std.specs.Prelude.{ℕ, ◌+◌, ◌-◌, ◌≤◌, ◌≡◌, List, [], ◌∷◌, ◌++◌, length, map, take, drop, Option, Some, slice_index_or, slice_set}
use Rattle.lo_model.specs.declared.owner.Owner.{Owner}
use Rattle.lo_model.specs.declared.owner.Owner.TheVariants.{Running}
use Rattle.xact_core.specs.declared.fate.Fate.{Fate}
use Rattle.xact_core.specs.declared.session.Level.{Level}
use Rattle.xact_core.specs.Ends.{release, undo}
use Rattle.xact_core.specs.Fate.{fate_after, turned_at}

-- A session's open levels: their names, at which index among the places those of each level begin, and the places of the
-- fates that belong to them.
pub record Opened : Type 0 where
  pub names : List (Option (List ℕ))
  pub starts : List ℕ
  pub places : List ℕ

abbrev pub name_of : Level → Option (List ℕ)
name_of level = level.name

abbrev pub start_of : Level → ℕ
start_of level = level.start

-- what a session's fields stand for
abbrev pub opened_of : List Level → List ℕ → Opened
opened_of levels places = record { names = map name_of levels; starts = map start_of levels; places = places }

-- no open level
abbrev pub nothing : Opened
nothing = record { names = []; starts = []; places = [] }

-- the levels at a place in a list of sessions
abbrev pub opened_at : List Opened → ℕ → Opened
opened_at sessions i = slice_index_or sessions i nothing

-- where a level's places begin
abbrev pub start : Opened → (level : ℕ) → ℕ
start session k = slice_index_or session.starts (k - 1) 0

-- the places of a level and of all above it
abbrev pub from_level : (level : ℕ) → Opened → List ℕ
from_level k session = drop (start session k) session.places

-- the places of all levels
abbrev pub all_places : Opened → List ℕ
all_places session = session.places

-- the first of a level's places
abbrev pub first_of : (level : ℕ) → Opened → ℕ
first_of k session = slice_index_or session.places (start session k) 0

-- the levels with one more, whose fate is at a place
abbrev pub with_level : Option (List ℕ) → ℕ → Opened → Opened
with_level name place session = record { names = session.names ++ name ∷ []; starts = session.starts ++ length session.places ∷ []; places = session.places ++ place ∷ [] }

-- a release of a level leaves its places to the level below it
abbrev pub with_released : (level : ℕ) → Opened → Opened
with_released k session = record { names = take (k - 1) session.names; starts = take (k - 1) session.starts; places = session.places }

-- an undoing of a level leaves the first of its places
abbrev pub with_undone : (level : ℕ) → Opened → Opened
with_undone k session = record { names = take k session.names; starts = take k session.starts; places = take (start session k + 1) session.places }

-- no levels in place of some
abbrev pub with_none : Opened → Opened
with_none session = nothing

-- the fate of a session's level, with what was made before an undoing undone
abbrev pub running : (session level since : ℕ) → Fate
running s level since = record { owner = Some (Running s level); since = since }

-- A session has one level more, whose fate is a new one.
pub record IsOpened (s : ℕ) (name : Option (List ℕ)) (sessions sessions' : List Opened) (fates fates' : List Fate) : Type 0 where
  pub low : 1 ≤ s
  pub high : s ≤ 16
  pub levels : sessions' ≡ slice_set sessions (s - 1) (with_level name (length fates) (opened_at sessions (s - 1)))
  pub turned : fates' ≡ fates ++ running s (length (opened_at sessions (s - 1)).names + 1) 0 ∷ []

-- What is made of each owner was made of those at some places of a session, and what is made of its levels is left.
pub record IsEnded (turn : Owner → Option Owner) (s : ℕ) (places : Opened → List ℕ) (left : Opened → Opened) (sessions sessions' : List Opened) (fates fates' : List Fate) : Type 0 where
  pub low : 1 ≤ s
  pub high : s ≤ 16
  pub levels : sessions' ≡ slice_set sessions (s - 1) (left (opened_at sessions (s - 1)))
  pub turned : fates' ≡ turned_at (fate_after turn) (places (opened_at sessions (s - 1))) fates

-- The places of a level and of all above it belong to the level below it.
abbrev pub IsReleased : (s k : ℕ) (sessions sessions' : List Opened) (fates fates' : List Fate) → Type 0
IsReleased s k sessions sessions' fates fates' = IsEnded (release s k) s (from_level k) (with_released k) sessions sessions' fates fates'

-- No level of a session is left, and all that was open is turned.
abbrev pub IsOver : (Owner → Option Owner) → (s : ℕ) (sessions sessions' : List Opened) (fates fates' : List Fate) → Type 0
IsOver turn s sessions sessions' fates fates' = IsEnded turn s all_places with_none sessions sessions' fates fates'

-- The fates of a level and of all above it are undone, and the first one is again the level's, with a count of undoings.
pub record IsUndone (s k undos : ℕ) (sessions sessions' : List Opened) (fates fates' : List Fate) : Type 0 where
  pub low : 1 ≤ s
  pub high : s ≤ 16
  pub levels : sessions' ≡ slice_set sessions (s - 1) (with_undone k (opened_at sessions (s - 1)))
  pub turned : fates' ≡ slice_set (turned_at (fate_after (undo s k)) (from_level k (opened_at sessions (s - 1))) fates) (first_of k (opened_at sessions (s - 1))) (running s k undos)
