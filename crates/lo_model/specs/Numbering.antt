-- Numbers for new objects. (Manual, Large Objects, Client Interfaces, lo_creat: an unused one is assigned. Which one is this
-- project's own rule.)
use Rattle.std.specs.Prelude.{ℕ, zero, suc, ◌+◌, ◌-◌, ◌==◌, Bool, true, false, not, ◌&&◌, nat_lt, List, Option, Some, None}
use Rattle.std.specs.List.{list_any}
use Rattle.lo_model.specs.declared.owner.Owner.{Owner}
use Rattle.lo_model.specs.declared.owner.Owner.TheVariants.{Running, Committed}
use Rattle.lo_model.specs.declared.viewer.Viewer.TheVariants.{Nobody}
use Rattle.lo_model.specs.Edit.{Deed, Create, Write, Cut, Unlink, Put, Delete, Edit}
use Rattle.lo_model.specs.Listing.{has_object}
use Rattle.lo_model.specs.View.{view}

-- no object has this number or a higher one
abbrev pub oid_end : ℕ
oid_end = 4294967296

-- whether a deed is one on an object
abbrev pub is_on : (oid : ℕ) → Deed → Bool
is_on o (Create p) = p == o
is_on o (Write p at bytes) = p == o
is_on o (Cut p size) = p == o
is_on o (Unlink p) = p == o
is_on o (Put table id values stored) = false
is_on o (Delete table id) = false

abbrev pub is_running : Owner → Bool
is_running (Running s l) = true
is_running (Committed c) = false

-- whether some open transaction has an edit on an object
abbrev pub has_open_edit : (oid : ℕ) → List (Edit Deed) → Bool
has_open_edit o edits = list_any (λ (e : Edit Deed). is_running e.owner && is_on o e.deed) edits

-- A number is free where it is no object of the committed view, and no open transaction has an edit on it.
abbrev pub is_free_oid : (now : ℕ) → List (Edit Deed) → (oid : ℕ) → Bool
is_free_oid now edits o = not (has_object (view now Nobody edits) o) && not (has_open_edit o edits)

-- the least number that passes a test: the given one, which does or does not, or of so many after it
abbrev pub least_from : (passes : Bool) → (more from : ℕ) → (ℕ → Bool) → Option ℕ
least_from true more from test = Some from
least_from false zero from test = None
least_from false (suc more) from test = least_from (test (from + 1)) more (from + 1) test

-- a number that an object can have, and that is free
abbrev pub may_be_picked : (now : ℕ) → List (Edit Deed) → (oid : ℕ) → Bool
may_be_picked now edits o = nat_lt o oid_end && is_free_oid now edits o

-- A picked number is the least free one from the counter upwards, if there is one.
abbrev pub picked_oid : (now counter : ℕ) → List (Edit Deed) → Option ℕ
picked_oid now counter edits =
    least_from (may_be_picked now edits counter) (oid_end - counter) counter (may_be_picked now edits)
