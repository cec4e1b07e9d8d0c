-- How a session gets at an object through a descriptor: the view that it holds and reads in, whether it may write, and where a
-- move takes it.
use Rattle.std.specs.Prelude.{◌≡◌, ◌≤◌, ℕ, ℤ, pos, ◌+◌, ◌+ℤ◌, List, [], ◌∷◌, ◌++◌, length, Option, Some, None, is_none, if◌then◌else◌}
use Rattle.lo_base.specs.declared.refusal.Cause.TheVariants.{NoDescriptor}
use Rattle.lo_base.specs.declared.refusal.Denied.{Denied}
use Rattle.lo_base.specs.declared.refusal.Denied.TheVariants.{By}
use Rattle.lo_base.specs.declared.refusal.Refusal.{Refusal}
use Rattle.lo_model.specs.declared.viewer.Viewer.TheVariants.{Whole}
use Rattle.lo_model.specs.Descriptor as model
use Rattle.lo_model.specs.Edit.{Deed, Edit}
use Rattle.xact_core.specs.declared.snapshot.Snapshot.{Snapshot}
use Rattle.xact_core.specs.Kept.{view_at, kept_views, HoldsOthers, LooksWhole, HoldsWholeViews}
use Rattle.xact_core.specs.Transactions.{Transactions}
use Rattle.row_versions.specs.Looks.{IsLook}
use Rattle.lo_pages.specs.Outcome.{largest_size, first_of}
use Rattle.lo_pages.specs.Standing.{StandFor}
use Rattle.lo_calls.specs.declared.descs.Descriptor.{Descriptor}
use Rattle.lo_calls.specs.declared.descs.Descs.{Descs}
use Rattle.lo_calls.specs.DescriptorRows.{may_write, of_descriptor, not_writable, bad_whence, seek_base, bad_truncate}
use Rattle.lo_calls.specs.Descriptors.{reading_of, described_by, descriptors_of, described_at, held_by, FindsDescriptor}
use Rattle.lo_calls.specs.Terms.{when, no_object}
use Rattle.lo_calls.specs.World.{World, here_of}

-- A view is held where a descriptor of the mode may not write.
pub record HoldsFor (mode : ℤ) (view : Snapshot) (x x' : Transactions) (hold : Option Snapshot) : Type 0 where
  pub is : hold ≡ (if may_write mode then None else Some view)
  pub others : HoldsOthers x x'
  pub held : x'.held ≡ x.held ++ held_by hold
  pub whole : LooksWhole view.viewer → HoldsWholeViews x → HoldsWholeViews x'
  pub views : length (kept_views x') ≤ length (kept_views x) + 1

-- A session's descriptor reads in a view, which is kept: the one that it holds, or the session's current one.
pub record ReadsIn (x : Transactions) (session : ℕ) (d : Descriptor) (view : Snapshot) : Type 0 where
  pub kept : IsLook x view
  pub is : view ≡ view_at (model.reading_clock (x.clock + 1) (reading_of d.hold)) (Whole session)

-- The descriptor of a number may write.
pub record FindsWritable (fd : ℤ) (descs : Descs) (index : ℕ) : Type 0 where
  pub finds : FindsDescriptor fd descs index
  pub writes : finds.entry.hold ≡ None

-- No descriptor has the number, or the one that has it may not write.
pub record FindsNoneWritable (fd : ℤ) (descs : Descs) (r : Refusal) : Type 0 where
  pub first : first_of (when (is_none (described_at fd (descriptors_of descs))) NoDescriptor fd ∷ of_descriptor not_writable (described_at fd (descriptors_of descs)) ∷ []) ≡ Some r

-- A whence is a good one, and this is what an offset is counted from.
pub record CountsFrom (w : World) (d : Descriptor) (whence : ℤ) (base : ℕ) : Type 0 where
  pub good : bad_whence whence ≡ None
  pub is : (ys : List (Edit Deed)) → StandFor w.xacts w.store.pages ys → base ≡ seek_base (here_of w ys) whence (described_by d)

-- where a move takes a descriptor
pub record IsTarget (base : ℕ) (offset : ℤ) (position : ℕ) : Type 0 where
  pub is : pos base +ℤ offset ≡ pos position
  pub within : position ≤ largest_size

-- Why a size that no object has is refused: the object is gone from the session's current view, or else the size is bad.
pub record DeniesSize (w : World) (oid : ℕ) (size : ℤ) (denied : Denied) : Type 0 where
  pub refusal : Refusal
  pub is : denied ≡ By refusal
  pub first : (ys : List (Edit Deed)) → StandFor w.xacts w.store.pages ys → first_of (no_object (here_of w ys) oid ∷ bad_truncate size ∷ []) ≡ Some refusal
