-- What a stamp stands for: when its edit was made, whose it is now, and which views have it.
use Rattle.std.specs.Prelude.{ℕ, ◌<◌, ◌≤◌, ◌≡◌, Bool, false, nat_lt, Option, Some, None, length, slice_get, if◌then◌else◌}
use Rattle.lo_model.specs.declared.owner.Owner.{Owner}
use Rattle.lo_model.specs.declared.owner.Owner.TheVariants.{Running, Committed}
use Rattle.lo_model.specs.View.{sees}
use Rattle.xact_core.specs.declared.fate.Fate.{Fate}
use Rattle.xact_core.specs.declared.snapshot.Snapshot.{Snapshot}
use Rattle.xact_core.specs.declared.stamp.Stamp.{Stamp}
use Rattle.xact_core.specs.Transactions.{Transactions, levels_of}

-- A stamp stands for the clock at which an edit was made, which never changes, and for its owner, which does.

abbrev pub made_at : Stamp → ℕ
made_at st = st.clock

abbrev pub owner_in : Stamp → Option Fate → Option Owner
owner_in st None = None
owner_in st (Some fate) = if nat_lt st.undos fate.since then None else fate.owner

-- whose the edit is now, or none where it was undone
abbrev pub owner_of : Transactions → Stamp → Option Owner
owner_of x st = owner_in st (slice_get x.fates st.place)

-- A stamp within the bounds of those that were given so far: its level was begun, and its clock and count of undoings
-- have come. Each stamp that was given is such. The other way round a stamp within them need not have been given.
pub record IsIssued (x : Transactions) (st : Stamp) : Type 0 where
  pub place : st.place < length x.fates
  pub undos : st.undos ≤ x.undos
  pub clock : st.clock ≤ x.clock

-- Whose an edit can be: one of the sixteen sessions', at one of its levels, or a commit's at a clock that has come.
pub record HasOwners (x : Transactions) : Type 0 where
  pub session : (st : Stamp) (s l : ℕ) → owner_of x st ≡ Some (Running s l) → (1 ≤ s) × (s ≤ 16)
  pub level : (st : Stamp) (s l : ℕ) → owner_of x st ≡ Some (Running s l) → (1 ≤ l) × (l ≤ length (levels_of x s))
  pub committed : (st : Stamp) (c : ℕ) → owner_of x st ≡ Some (Committed c) → c ≤ x.clock

-- each open edit of a session stands at one of its first levels
abbrev pub RunsWithin : Transactions → (session count : ℕ) → Type 0
RunsWithin x s count = (st : Stamp) (l : ℕ) → owner_of x st ≡ Some (Running s l) → (1 ≤ l) × (l ≤ count)

-- whether a view has an edit that was made at a clock, of an owner, or undone. Undone edits are in no view
abbrev pub sees_made : Snapshot → (made : ℕ) → Option Owner → Bool
sees_made v made None = false
sees_made v made (Some owner) = sees v.clock v.viewer made owner

-- whether a view has the edit of a stamp, as owners now stand
abbrev pub sees_stamp : Transactions → Snapshot → Stamp → Bool
sees_stamp x v st = sees_made v (made_at st) (owner_of x st)

-- two views have the same edits
abbrev pub SeesSame : Transactions → (v w : Snapshot) → Type 0
SeesSame x v w = (st : Stamp) → sees_stamp x v st ≡ sees_stamp x w st
