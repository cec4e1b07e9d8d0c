-- Worked examples of the definitions, each computed by the checker: a wrong one fails the crate.
use Rattle.std.proofs.Common.{◌≡◌, refl, ℕ, true, false, [], ◌∷◌, Some, None}
use Rattle.lo_model.specs.declared.owner.Owner.TheVariants.{Running}
use Rattle.lo_model.specs.declared.viewer.Viewer.TheVariants.{Nobody, Whole, Below}
use Rattle.xact_core.specs.declared.stamp.Stamp.{Stamp}
use Rattle.xact_core.specs.Kept.{kept_views, view_at}
use Rattle.xact_core.specs.Laws.{before_release, before_undo}
use Rattle.xact_core.specs.Stamp.{owner_of, sees_stamp}
use Rattle.xact_core.specs.Transactions.{Transactions, levels_of}

-- session 2 has two levels, the second named `a`. What was made in its second level before the first undoing is undone
abbrev two_levels : Transactions
two_levels =
    record {
      clock = 4;
      undos = 1;
      levels = [] ∷ (None ∷ Some (97 ∷ []) ∷ []) ∷ [];
      fates = record { owner = Some (Running 2 1); since = 0 } ∷ record { owner = Some (Running 2 2); since = 1 } ∷ [];
      held = view_at 2 (Whole 1) ∷ [];
    }

abbrev stamp_in : (clock place undos : ℕ) → Stamp
stamp_in clock place undos = record { clock = clock; place = place; undos = undos }

names : levels_of two_levels 2 ≡ None ∷ Some (97 ∷ []) ∷ []
names = refl

kept : kept_views two_levels ≡ view_at 5 Nobody ∷ view_at 5 (Whole 2) ∷ view_at 5 (Below 2 1) ∷ view_at 5 (Below 2 2) ∷ view_at 2 (Whole 1) ∷ []
kept = refl

undone : owner_of two_levels (stamp_in 3 1 0) ≡ None
undone = refl

made_after_the_undoing : owner_of two_levels (stamp_in 4 1 1) ≡ Some (Running 2 2)
made_after_the_undoing = refl

seen_by_its_session : sees_stamp two_levels (view_at 5 (Whole 2)) (stamp_in 4 1 1) ≡ true
seen_by_its_session = refl

not_below_its_level : sees_stamp two_levels (view_at 5 (Below 2 2)) (stamp_in 4 1 1) ≡ false
not_below_its_level = refl

-- after a release of level 3 the view below level 2 is as it was, and the one below level 3 is the whole one
below_the_lower_level : before_release 1 3 (Below 1 2) ≡ Below 1 2
below_the_lower_level = refl

reaching_the_lower_level : before_release 1 3 (Below 1 3) ≡ Whole 1
reaching_the_lower_level = refl

left_by_an_undoing : before_undo 1 2 (Whole 1) ≡ Below 1 2
left_by_an_undoing = refl

other_session : before_undo 1 2 (Whole 3) ≡ Whole 3
other_session = refl
