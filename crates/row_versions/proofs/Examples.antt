-- Worked examples, each computed by the checker: a wrong one fails the crate.
use Rattle.std.proofs.Common.{◌≡◌, refl, ℕ, Bool, true, false, List, [], ◌∷◌, Some}
use Rattle.lo_model.specs.declared.owner.Owner.{Owner}
use Rattle.lo_model.specs.declared.owner.Owner.TheVariants.{Running, Committed}
use Rattle.lo_model.specs.declared.viewer.Viewer.TheVariants.{Nobody, Whole, Below}
use Rattle.lo_model.specs.Edit.{Edit}
use Rattle.xact_core.specs.declared.snapshot.Snapshot.{Snapshot}
use Rattle.xact_core.specs.Ends.{release, undo}
use Rattle.xact_core.specs.Kept.{view_at}
use Rattle.row_versions.specs.Stack.{turned}
use Rattle.row_versions.specs.Vacuum.{found, any_open, lasts, reclaimed}

-- A deed here is whether it puts something.
abbrev is_erasure : Bool → Bool
is_erasure true = false
is_erasure false = true

abbrev edit : ℕ → Owner → Bool → Edit Bool
edit clock owner puts = record { clock = clock; owner = owner; deed = puts }

-- put and erased at level 1, put again at level 2
abbrev three : List (Edit Bool)
three = edit 3 (Running 1 1) true ∷ edit 4 (Running 1 1) false ∷ edit 5 (Running 1 2) true ∷ []

abbrev two_levels : List Snapshot
two_levels = view_at 6 Nobody ∷ view_at 6 (Whole 1) ∷ view_at 6 (Below 1 1) ∷ view_at 6 (Below 1 2) ∷ []

-- the erasure stays, though no view finds anything by it
erasure_stays : reclaimed is_erasure two_levels three ≡ edit 4 (Running 1 1) false ∷ edit 5 (Running 1 2) true ∷ []
erasure_stays = refl

-- so the key is still held after the second level is undone
still_held : any_open (Whole 1) (turned (undo 1 2) (reclaimed is_erasure two_levels three)) ≡ true
still_held = refl

-- put and erased, both committed
abbrev erased : List (Edit Bool)
erased = edit 1 (Committed 1) true ∷ edit 2 (Committed 2) false ∷ []

-- without a reader nothing is left
nothing_left : reclaimed is_erasure (view_at 6 Nobody ∷ []) erased ≡ []
nothing_left = refl

-- by the rule of last ones alone the erasure would be left for ever
left_for_ever : lasts (view_at 6 Nobody ∷ []) erased ≡ edit 2 (Committed 2) false ∷ []
left_for_ever = refl

-- with a reader of the put both are
reader_keeps : reclaimed is_erasure (view_at 6 Nobody ∷ view_at 2 Nobody ∷ []) erased ≡ erased
reader_keeps = refl

-- A view below a level that is held for a reader: after a reclamation and a release it does not see what the edits say.
abbrev covered : List (Edit Bool)
covered = edit 1 (Committed 1) true ∷ edit 3 (Running 1 2) true ∷ edit 6 (Running 1 2) true ∷ []

abbrev held_below : List Snapshot
held_below = view_at 7 Nobody ∷ view_at 7 (Whole 1) ∷ view_at 7 (Below 1 1) ∷ view_at 7 (Below 1 2) ∷ view_at 5 (Below 1 2) ∷ []

by_the_edits : found is_erasure (view_at 5 (Below 1 2)) (turned (release 1 2) covered) ≡ Some (edit 3 (Running 1 1) true)
by_the_edits = refl

by_the_versions : found is_erasure (view_at 5 (Below 1 2)) (turned (release 1 2) (reclaimed is_erasure held_below covered)) ≡ Some (edit 1 (Committed 1) true)
by_the_versions = refl

-- Two puts of one clock at two levels, which one request never makes: both are found, so one clock has two versions.
abbrev one_clock : List (Edit Bool)
one_clock = edit 5 (Running 1 1) true ∷ edit 5 (Running 1 2) true ∷ []

both_left : reclaimed is_erasure two_levels one_clock ≡ one_clock
both_left = refl
