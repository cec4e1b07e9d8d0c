-- Two readings of a row, of which one sees the present clock: they grant and refuse the same.
use Rattle.std.specs.Prelude.{◌≡◌, ℕ, ◌+◌, List, All}
use Rattle.lo_calls.specs.Row.{Here, Row}
use Rattle.lo_model.specs.declared.viewer.Viewer.{Viewer}
use Rattle.lo_model.specs.Descriptor.{Reading, Kept, Current, Descriptor}
use Rattle.lo_model.specs.Edit.{Deed, Edit}
use Rattle.lo_model.specs.View.{view}
use Rattle.lo_machine.specs.Later.{all_later}

-- each view of a clock has what that of the clock above has
abbrev pub SeesNone : List (Edit Deed) → (clock : ℕ) → Type 0
SeesNone edits clock = (viewer : Viewer) → view (clock + 1) viewer edits ≡ view clock viewer edits

abbrev pub ReadsNone : List (Edit Deed) → Reading → Type 0
ReadsNone edits (Kept clock) = SeesNone edits clock
ReadsNone edits Current = Unit {0}

-- what a server reads and what a state has
pub record AreAlike (later here : Here) : Type 0 where
  pub now : later.now ≡ here.now + 1
  pub session : later.session ≡ here.session
  pub descriptors : later.descriptors ≡ all_later here.descriptors
  pub edits : later.edits ≡ here.edits
  pub counter : later.counter ≡ here.counter
  pub views : SeesNone here.edits here.now
  pub kept : All (λ (d : Descriptor). ReadsNone here.edits d.reading) here.descriptors

-- what rows answer then. A new descriptor belongs to the level that was read.
pub record IsSameRow (row : Here → Row) (later here : Here) : Type 0 where
  pub refusals : (row later).refusals ≡ (row here).refusals
  pub reply : (row later).granted.reply ≡ (row here).granted.reply
  pub deeds : (row later).granted.deeds ≡ (row here).granted.deeds
  pub counter : (row later).granted.counter ≡ (row here).granted.counter
  pub descriptors : later.level ≡ here.level → (row later).granted.descriptors ≡ all_later (row here).granted.descriptors
