-- Which views are kept, and what calls do to them.
use Rattle.std.specs.Prelude.{ℕ, zero, suc, ◌+◌, ◌<◌, ◌≤◌, ◌≡◌, List, [], ◌∷◌, ◌++◌, length, Option, Some, Contains, slice_get, remove}
use Rattle.lo_model.specs.declared.viewer.Viewer.{Viewer}
use Rattle.lo_model.specs.declared.viewer.Viewer.TheVariants.{Nobody, Whole, Below}
use Rattle.xact_core.specs.declared.snapshot.Snapshot.{Snapshot}
use Rattle.xact_core.specs.Transactions.{Transactions, levels_of}

-- The kept views: the one of what is committed, for each session with a transaction its own whole one and the one below
-- each of its levels, and those that are held. All but the held ones are at the clock above the present one, so that they
-- have the edits of the present clock.

abbrev pub view_at : ℕ → Viewer → Snapshot
view_at clock viewer = record { clock = clock; viewer = viewer }

-- the view that a session has now: what is committed, with its own open edits. Those of the present clock are in it
abbrev pub current : Transactions → (session : ℕ) → Snapshot
current x s = view_at (x.clock + 1) (Whole s)

-- the view of what is committed now
abbrev pub current_committed : Transactions → Snapshot
current_committed x = view_at (x.clock + 1) Nobody

-- what a session has now but the edits of a level and of all above it
abbrev pub current_below : Transactions → (session level : ℕ) → Snapshot
current_below x s l = view_at (x.clock + 1) (Below s l)

-- who looks in a session's view of a number
abbrev pub viewer_of : (session number : ℕ) → Viewer
viewer_of s zero = Whole s
viewer_of s (suc n) = Below s (suc n)

-- a session's views below each of its levels
abbrev pub below_views : (clock session levels : ℕ) → List Snapshot
below_views clock s zero = []
below_views clock s (suc n) = below_views clock s n ++ view_at clock (Below s (suc n)) ∷ []

-- the views of one session, which has levels with these names
abbrev pub session_views : (clock session : ℕ) → List (Option (List ℕ)) → List Snapshot
session_views clock s [] = []
session_views clock s (name ∷ names) = view_at clock (Whole s) ∷ below_views clock s (length (name ∷ names))

-- the views of sessions, from the session of a number on
abbrev pub sessions_views : (clock first : ℕ) → List (List (Option (List ℕ))) → List Snapshot
sessions_views clock s [] = []
sessions_views clock s (names ∷ rest) = session_views clock s names ++ sessions_views clock (s + 1) rest

abbrev pub kept_views : Transactions → List Snapshot
kept_views x = current_committed x ∷ (sessions_views (x.clock + 1) 1 x.levels ++ x.held)

-- the ways in which a view is kept
pub data KeptBy (x : Transactions) (v : Snapshot) : Type 0 where
  ByNobody : v ≡ current_committed x → KeptBy x v
  ByWhole : (s : ℕ) → 1 ≤ s → 0 < length (levels_of x s) → v ≡ current x s → KeptBy x v
  ByBelow : (s l : ℕ) → 1 ≤ s → 1 ≤ l → l ≤ length (levels_of x s) → v ≡ current_below x s l → KeptBy x v
  ByHold : Contains x.held v → KeptBy x v

-- how many views of one session are kept
abbrev pub views_of : List (Option (List ℕ)) → ℕ
views_of [] = 0
views_of (name ∷ names) = length (name ∷ names) + 1

-- One view was taken out of a list, from some place, and all others stay in their order.
pub record TakesOut (view : Snapshot) (old new : List Snapshot) : Type 0 where
  pub place : ℕ
  pub stood : slice_get old place ≡ Some view
  pub rest : new ≡ remove old place

-- Other views are held, each of which was kept before, and nothing else changed: a hold, or the end of one.
pub record HoldsOthers (old new : Transactions) : Type 0 where
  pub rest : new ≡ record old { held = new.held }
  pub kept : (v : Snapshot) → Contains new.held v → Contains (kept_views old) v

-- a viewer who looks at the whole: nobody, or a session with all its levels
abbrev pub LooksWhole : Viewer → Type 0
LooksWhole Nobody = Unit {0}
LooksWhole (Whole s) = Unit {0}
LooksWhole (Below s l) = ⊥

-- Each held view is nobody's or a session's whole one, and none is below a level. After a release a view that is held
-- below a level can have an edit which no kept view had last before, so whoever reclaims what no kept view has asks for
-- this.
pub record HoldsWholeViews (x : Transactions) : Type 0 where
  pub whole : (v : Snapshot) → Contains x.held v → LooksWhole v.viewer
