-- No view reads a clock at which no edit was made: so it is of the present clock, and of those at which views were taken.
use Rattle.std.proofs.Common.{◌≡◌, ◌≢◌, ℕ, ◌+◌, List, [], ◌∷◌, refl, ap, arith}
use Rattle.std.specs.Prelude.{All, nat_lt}
use Rattle.std.proofs.lemmas.Bool.{true≢false}
use Rattle.std.proofs.lemmas.Bool.Decides.{nat_tests}
use Rattle.std.proofs.lemmas.List.Elements.{All-head, All-tail, All-weaker}
use Rattle.lo_model.specs.declared.owner.Owner.{Owner}
use Rattle.lo_model.specs.declared.owner.Owner.TheVariants.{Running, Committed}
use Rattle.lo_model.specs.declared.viewer.Viewer.{Viewer}
use Rattle.lo_model.specs.Descriptor.{Reading, Kept, Current, Cursor, Descriptor}
use Rattle.lo_model.specs.Edit.{Deed, Edit}
use Rattle.lo_model.specs.Numbering.{is_running}
use Rattle.lo_model.specs.Session.{Session}
use Rattle.lo_model.specs.View.{has_owner}
use Rattle.lo_machine.specs.Alike.{SeesNone, ReadsNone}
use Rattle.lo_machine.specs.Well.{IsOwner, IsPast, IsQuietAt, IsQuiet, IsCursor, IsDescriptor}

-- what was not made at a clock is below it or not, alike one clock later
below_later : (clock made : ℕ) → made ≢ clock → nat_lt made (clock + 1) ≡ nat_lt made clock
below_later clock made other = grind (arith, nat_tests, other)

owner_later : (clock : ℕ) (viewer : Viewer) (owner : Owner) → owner ≢ Committed clock → has_owner (clock + 1) viewer owner ≡ has_owner clock viewer owner
owner_later clock viewer (Running s l) other = refl
owner_later clock viewer (Committed c) other = below_later clock c (λ same. other (ap Committed same))

pub quiet_later : (clock : ℕ) (edits : List (Edit Deed)) → All (IsQuietAt clock) edits → SeesNone edits clock
quiet_later clock [] all viewer = refl
quiet_later clock (e ∷ edits) all viewer =
    let quiet : IsQuietAt clock e = All-head (IsQuietAt clock) e edits all in
    let rest = quiet_later clock edits (All-tail (IsQuietAt clock) e edits all) viewer in
    rw (below_later clock e.clock quiet.made, owner_later clock viewer e.owner quiet.owner, rest) refl

-- no edit before an advance was made at its clock

abbrev pub clock_in : Owner → ℕ
clock_in (Running s l) = 0
clock_in (Committed c) = c

pub past_quiet : (now : ℕ) (sessions : ℕ → Session) (e : Edit Deed) → IsPast now sessions e → IsQuietAt now e
past_quiet now sessions e past = record { made = λ same. absurd (omega (arith, past.made, same)); owner = by e.owner past.owner }
  where
    by : (owner : Owner) → IsOwner now sessions owner → owner ≢ Committed now
    by (Running s l) was same = absurd (true≢false (ap is_running same))
    by (Committed c) was same = absurd (omega (arith, was, ap clock_in same))

pub past_later : (now : ℕ) (sessions : ℕ → Session) (edits : List (Edit Deed)) → All (IsPast now sessions) edits → SeesNone edits now
past_later now sessions edits all = quiet_later now edits (All-weaker (IsPast now sessions) (IsQuietAt now) (past_quiet now sessions) edits all)

pub kept_later : (now levels : ℕ) (edits : List (Edit Deed)) (ds : List Descriptor) → All (IsDescriptor now edits levels) ds → All (λ (d : Descriptor). ReadsNone edits d.reading) ds
kept_later now levels edits ds all = All-weaker (IsDescriptor now edits levels) (λ (d : Descriptor). ReadsNone edits d.reading) (λ d is. by d.reading is.quiet) ds all
  where
    by : (r : Reading) → IsQuiet now edits r → ReadsNone edits r
    by (Kept c) quiet = quiet_later c edits quiet.1
    by Current quiet = tt

pub cursors_later : (now levels : ℕ) (edits : List (Edit Deed)) (cs : List Cursor) → All (IsCursor now edits levels) cs → All (λ (c : Cursor). SeesNone edits c.clock) cs
cursors_later now levels edits cs all = All-weaker (IsCursor now edits levels) (λ (c : Cursor). SeesNone edits c.clock) (λ c is. quiet_later c.clock edits is.quiet.1) cs all
