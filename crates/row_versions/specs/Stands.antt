-- Versions of one key, what they stand for among the edits of a place, and what a vacuum leaves of them.
use Rattle.std.specs.Prelude.{◌≡◌, ℕ, Bool, true, false, not, ◌&&◌, List, [], ◌∷◌, ◌++◌, length, Option, Some, None, ◌⊎◌, if◌then◌else◌}
use Rattle.std.specs.List.{list_any}
use Rattle.lo_model.specs.declared.owner.Owner.{Owner}
use Rattle.lo_model.specs.declared.owner.Owner.TheVariants.{Running, Committed}
use Rattle.lo_model.specs.declared.viewer.Viewer.{Viewer}
use Rattle.lo_model.specs.declared.viewer.Viewer.TheVariants.{Nobody}
use Rattle.lo_model.specs.Edit.{Edit}
use Rattle.lo_model.specs.Touch.{lower_of, other_session}
use Rattle.lo_model.specs.View.{view}
use Rattle.xact_core.specs.declared.snapshot.Snapshot.{Snapshot}
use Rattle.xact_core.specs.declared.stamp.Stamp.{Stamp}
use Rattle.xact_core.specs.Kept.{kept_views}
use Rattle.xact_core.specs.Laws.{looks_as}
use Rattle.xact_core.specs.Stamp.{made_at, owner_of, IsIssued, sees_stamp}
use Rattle.xact_core.specs.Transactions.{Transactions, levels_of}
use Rattle.row_versions.specs.Stack.{Each, IsStack}
use Rattle.row_versions.specs.Looks.{IsLook}
use Rattle.row_versions.specs.Vacuum.{is_open_to, any_open, is_committed}

-- A version of one key: its stamp, and what it puts there.
pub record Version (D : Type 0) : Type 0 where
  pub stamp : Stamp
  pub deed : D

abbrev pub edit_of : {D : Type 0} → Version D → Owner → Edit D
edit_of v w = record { clock = made_at v.stamp; owner = w; deed = v.deed }

abbrev pub standing_of : {D : Type 0} → Option Owner → Version D → List (Edit D) → List (Edit D)
standing_of None v es = es
standing_of (Some w) v es = edit_of v w ∷ es

-- the versions that were not undone, as edits of those whose they are now
abbrev pub standing : {D : Type 0} → Transactions → List (Version D) → List (Edit D)
standing x [] = []
standing x (v ∷ vs) = standing_of (owner_of x v.stamp) v (standing x vs)

abbrev pub Fits : {D : Type 0} → Transactions → List (Version D) → Type 0
Fits {D} x vs = Each (λ (v : Version D). IsIssued x v.stamp) vs

-- a place after edits, in order. What an edit makes may use its clock, and not its owner
abbrev pub after_all : {D S : Type 0} → (S → ℕ → D → S) → S → List (Edit D) → S
after_all after old [] = old
after_all after old (e ∷ es) = after_all after (after old e.clock e.deed) es

-- in each of some views both lists make the same of the place
pub record Agrees {D E S : Type 0} (W : Snapshot → Type 0) (after : S → ℕ → D → S) (after' : S → ℕ → E → S) (first : S) (xs : List (Edit D)) (ys : List (Edit E)) : Type 0 where
  pub same : (v : Snapshot) → W v → after_all after first (view v.clock v.viewer xs) ≡ after_all after' first (view v.clock v.viewer ys)

-- an edit made at a clock, of an owner, stands among these
abbrev pub HasMark : {E : Type 0} → ℕ → Owner → List (Edit E) → Type 0
HasMark c w [] = ⊥
HasMark c w (f ∷ fs) = ((f.clock ≡ c) × (f.owner ≡ w)) ⊎ HasMark c w fs

-- each of the first has the clock and owner of one of the second
abbrev pub IsLinked : {D E : Type 0} → List (Edit D) → List (Edit E) → Type 0
IsLinked {D} xs ys = Each (λ (e : Edit D). HasMark e.clock e.owner ys) xs

-- for whom one of some keys is open
abbrev pub some_open : {D : Type 0} → Viewer → List (List (Edit D)) → Bool
some_open viewer keys = list_any (any_open viewer) keys

-- The versions of some keys, taken together, are open for the same sessions at the same levels as the edits of a place.
-- The keys are those whose versions tell that the place is touched.
pub record BusyAlike {D E : Type 0} (keys : List (List (Edit D))) (ys : List (Edit E)) : Type 0 where
  pub alike : (viewer : Viewer) → some_open viewer keys ≡ any_open viewer ys

-- for whom an owner was open before an end, by whom it is open for after it
abbrev pub opens_if : Viewer → Option Owner → Bool
opens_if viewer None = false
opens_if viewer (Some w) = is_open_to viewer w

-- after a commit nothing is open for the session
abbrev pub before_commit : (session : ℕ) → Viewer → Viewer
before_commit s viewer = if looks_as s viewer then Nobody else viewer

-- a version replaces what was there: the value that it gives, or for an erasure the first one
abbrev pub replaces : {D S : Type 0} → (ℕ → D → S) → S → ℕ → D → S
replaces value old clock deed = value clock deed

-- The versions of one key stand for the edits of one place.
pub record StandsAt {D E S : Type 0} (W : Snapshot → Type 0) (x : Transactions) (value : ℕ → D → S) (after : S → ℕ → E → S) (first : S) (vs : List (Version D)) (ys : List (Edit E)) : Type 0 where
  pub fits : Fits x vs
  pub versions : IsStack x (standing x vs)
  pub edits : IsStack x ys
  pub linked : IsLinked (standing x vs) ys
  pub same : Agrees W (replaces value) after first (standing x vs) ys

-- Reclamation of the versions of one key

abbrev pub is_last_version : {D : Type 0} → Transactions → List Snapshot → Version D → List (Version D) → Bool
is_last_version {D} x views v later = list_any (λ u. sees_stamp x u v.stamp && not (list_any (λ (w : Version D). sees_stamp x u w.stamp) later)) views

-- each version that is the last that some view sees
abbrev pub last_versions : {D : Type 0} → Transactions → List Snapshot → List (Version D) → List (Version D)
last_versions x views [] = []
last_versions x views (v ∷ vs) = if is_last_version x views v vs then v ∷ last_versions x views vs else last_versions x views vs

-- whether a version was undone, or is a committed erasure
abbrev pub is_gone : {D : Type 0} → (erases : D → Bool) → Option Owner → D → Bool
is_gone erases None deed = true
is_gone erases (Some w) deed = is_committed w && erases deed

abbrev pub trimmed_versions : {D : Type 0} → (erases : D → Bool) → Transactions → List (Version D) → List (Version D)
trimmed_versions erases x [] = []
trimmed_versions erases x (v ∷ vs) = if is_gone erases (owner_of x v.stamp) v.deed then trimmed_versions erases x vs else v ∷ vs

-- what `vacuum` leaves of the versions of a key
abbrev pub vacuumed : {D : Type 0} → (erases : D → Bool) → Transactions → List (Version D) → List (Version D)
vacuumed erases x vs = trimmed_versions erases x (last_versions x (kept_views x) vs)

-- The versions of a key that `vacuum` need not look at: one committed put.
abbrev pub IsPutBy : {D : Type 0} → (erases : D → Bool) → Option Owner → D → Type 0
IsPutBy erases None deed = ⊥
IsPutBy erases (Some (Running s l)) deed = ⊥
IsPutBy erases (Some (Committed c)) deed = erases deed ≡ false

abbrev pub IsSettled : {D : Type 0} → (erases : D → Bool) → Transactions → List (Version D) → Type 0
IsSettled erases x [] = Unit {0}
IsSettled erases x (v ∷ []) = IsPutBy erases (owner_of x v.stamp) v.deed
IsSettled erases x (v ∷ (w ∷ vs)) = ⊥

-- The relation of a store that answers in the kept views.
abbrev pub Stands : {D E S : Type 0} → Transactions → (ℕ → D → S) → (S → ℕ → E → S) → S → List (Version D) → List (Edit E) → Type 0
Stands x value after first vs ys = StandsAt (IsLook x) x value after first vs ys

-- the lowest other session with an open edit
abbrev pub lowest_other : {D : Type 0} → (session : ℕ) → List (Edit D) → Option ℕ
lowest_other s [] = None
lowest_other s (e ∷ es) = lower_of (other_session s e.owner) (lowest_other s es)

-- a version that a session puts now
pub record IsNew {D : Type 0} (x : Transactions) (s : ℕ) (v : Version D) : Type 0 where
  pub clock : made_at v.stamp ≡ x.clock
  pub owner : owner_of x v.stamp ≡ Some (Running s (length (levels_of x s)))
  pub issued : IsIssued x v.stamp

-- an edit that a session makes now
abbrev pub made_now : {E : Type 0} → Transactions → (session : ℕ) → E → Edit E
made_now x s deed = record { clock = x.clock; owner = Running s (length (levels_of x s)); deed = deed }

-- versions of a call that found no memory: all are new ones of the session's top level
pub record AddsOwn {D : Type 0} (x : Transactions) (s : ℕ) (old new : List (Version D)) : Type 0 where
  pub more : List (Version D)
  pub is : new ≡ old ++ more
  pub own : Each (IsNew x s) more

-- an erasure gives the first value
pub record Erases {D S : Type 0} (erases : D → Bool) (value : ℕ → D → S) (first : S) : Type 0 where
  pub gives : (clock : ℕ) (deed : D) → erases deed ≡ true → value clock deed ≡ first

-- what an end makes of owners, told by who has them open: a viewer after it has open what another had before
pub record OpensAs (turn : Owner → Option Owner) (before : Viewer → Viewer) : Type 0 where
  pub opens : (viewer : Viewer) (w : Owner) → opens_if viewer (turn w) ≡ is_open_to (before viewer) w
