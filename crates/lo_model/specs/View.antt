use Rattle.std.specs.Prelude.{ℕ, Bool, false, ◌==◌, ◌&&◌, nat_lt, List, filter}
use Rattle.lo_model.specs.declared.owner.Owner.{Owner}
use Rattle.lo_model.specs.declared.owner.Owner.TheVariants.{Running, Committed}
use Rattle.lo_model.specs.declared.viewer.Viewer.{Viewer}
use Rattle.lo_model.specs.declared.viewer.Viewer.TheVariants.{Nobody, Whole, Below}
use Rattle.lo_model.specs.Edit.{Edit}

-- A view at a clock has the edits made below that clock that were committed below it, and of the session that looks its
-- own open ones too: those of all its levels, or of its levels below one. Nobody has the committed ones alone.
-- (Manual, Transaction Isolation, Read Committed.)

-- whether whoever looks has the open edits of a session at a level
abbrev pub has_open : Viewer → (session level : ℕ) → Bool
has_open Nobody s l = false
has_open (Whole viewer) s l = s == viewer
has_open (Below viewer limit) s l = (s == viewer) && nat_lt l limit

-- whether an owner's edits belong to a view at a clock
abbrev pub has_owner : (clock : ℕ) → Viewer → Owner → Bool
has_owner clock viewer (Running s l) = has_open viewer s l
has_owner clock viewer (Committed c) = nat_lt c clock

-- whether an edit made at a clock, of an owner as it now stands, belongs to a view
abbrev pub sees : (clock : ℕ) → Viewer → (made : ℕ) → Owner → Bool
sees clock viewer made owner = nat_lt made clock && has_owner clock viewer owner

abbrev pub sees_edit : {D : Type 0} → (clock : ℕ) → Viewer → Edit D → Bool
sees_edit clock viewer e = sees clock viewer e.clock e.owner

-- the edits that a view has, in the order made
abbrev pub view : {D : Type 0} → (clock : ℕ) → Viewer → List (Edit D) → List (Edit D)
view clock viewer edits = filter (sees_edit clock viewer) edits

-- The current view of a session at a clock: what was committed before, and its own open edits.
abbrev pub current_view : {D : Type 0} → (clock session : ℕ) → List (Edit D) → List (Edit D)
current_view clock s edits = view clock (Whole s) edits
