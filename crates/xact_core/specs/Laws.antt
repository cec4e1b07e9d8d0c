-- What the ends of levels and transactions do to views, edit by edit.
use Rattle.std.specs.Prelude.{ℕ, ◌≡◌, ◌≤◌, Bool, true, false, nat_lt, ◌==◌, ◌&&◌, nat_le, min, Option, if◌then◌else◌}
use Rattle.lo_model.specs.declared.owner.Owner.{Owner}
use Rattle.lo_model.specs.declared.viewer.Viewer.{Viewer}
use Rattle.lo_model.specs.declared.viewer.Viewer.TheVariants.{Nobody, Whole, Below}
use Rattle.xact_core.specs.declared.snapshot.Snapshot.{Snapshot}
use Rattle.xact_core.specs.declared.stamp.Stamp.{Stamp}
use Rattle.xact_core.specs.Fate.{is_some_from}
use Rattle.xact_core.specs.Kept.{view_at}
use Rattle.xact_core.specs.Stamp.{owner_of, IsIssued, sees_stamp}
use Rattle.xact_core.specs.Transactions.{Transactions}

-- What the ends of levels and transactions do to views. Each law is of one edit, by its stamp, and so of all.

-- whether an edit is one of a session's open transaction
abbrev pub is_open : (session : ℕ) → Option Owner → Bool
is_open s owner = is_some_from s 0 owner

-- whether who looks is the session
abbrev pub looks_as : (session : ℕ) → Viewer → Bool
looks_as s Nobody = false
looks_as s (Whole t) = t == s
looks_as s (Below t l) = t == s

-- Who saw before a release of a level what a viewer sees after it. The whole view of the session stays, and those below
-- levels up to the lower one, and those of all others. A view that reaches the lower level now has all of the session's.
abbrev pub before_release : (session level : ℕ) → Viewer → Viewer
before_release s k Nobody = Nobody
before_release s k (Whole t) = Whole t
before_release s k (Below t l) = if (t == s) && nat_le k l then Whole t else Below t l

-- Who saw before an undoing of a level what a viewer sees after it. The session's views are left with what was below the
-- level, and those of all others stay.
abbrev pub before_undo : (session level : ℕ) → Viewer → Viewer
before_undo s k Nobody = Nobody
before_undo s k (Whole t) = if t == s then Below t k else Whole t
before_undo s k (Below t l) = if t == s then Below t (min l k) else Below t l

-- Each view now has what the view of another viewer at its clock had before.
pub record SeesAs (before : Viewer → Viewer) (old new : Transactions) : Type 0 where
  pub sees : (v : Snapshot) (st : Stamp) → IsIssued old st → sees_stamp new v st ≡ sees_stamp old (view_at v.clock (before v.viewer)) st

-- Each view of others than the session has what it had.
pub record SparesOthers (session : ℕ) (old new : Transactions) : Type 0 where
  pub sees : (v : Snapshot) (st : Stamp) → IsIssued old st → looks_as session v.viewer ≡ false → sees_stamp new v st ≡ sees_stamp old v st

-- A commit at a clock shows all of the session's open edits to later views, and to no earlier one, not even its own. It
-- shows and hides no other edit. So a view of others that was taken before the clock moved on has what it had.
pub record ShowsFrom (session clock : ℕ) (old new : Transactions) : Type 0 where
  pub own : (v : Snapshot) (st : Stamp) → IsIssued old st → is_open session (owner_of old st) ≡ true → sees_stamp new v st ≡ nat_lt clock v.clock
  pub spared : (v : Snapshot) (st : Stamp) → IsIssued old st → is_open session (owner_of old st) ≡ false → sees_stamp new v st ≡ sees_stamp old v st
  pub earlier : (v : Snapshot) (st : Stamp) → IsIssued old st → looks_as session v.viewer ≡ false → v.clock ≤ clock → sees_stamp new v st ≡ sees_stamp old v st
