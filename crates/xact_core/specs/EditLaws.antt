-- What the ends of levels and transactions, and an edit more, do to views of lists of edits, in the words of the model.
use Rattle.std.specs.Prelude.{ℕ, ◌≡◌, ◌≤◌, ◌<◌, false, List, [], ◌∷◌, ◌++◌}
use Rattle.lo_model.specs.declared.owner.Owner.{Owner}
use Rattle.lo_model.specs.declared.owner.Owner.TheVariants.{Running}
use Rattle.lo_model.specs.declared.viewer.Viewer.{Viewer}
use Rattle.lo_model.specs.declared.viewer.Viewer.TheVariants.{Nobody, Whole}
use Rattle.lo_model.specs.Edit.{Edit, deeds}
use Rattle.lo_model.specs.Levels.{released, undone, committed}
use Rattle.lo_model.specs.View.{view}
use Rattle.xact_core.specs.Laws.{looks_as, before_release, before_undo}

-- the deeds of the edits that a view has
abbrev pub deeds_in : {D : Type 0} → (clock : ℕ) → Viewer → List (Edit D) → List D
deeds_in clock viewer edits = deeds (view clock viewer edits)

-- edits with one more
abbrev pub with_edit : {D : Type 0} → (made : ℕ) → Owner → D → List (Edit D) → List (Edit D)
with_edit made owner deed edits = edits ++ record { clock = made; owner = owner; deed = deed } ∷ []

-- After a release each view has the deeds that another had before, which is the same view for the session's whole one.
pub record ReleasesViews {D : Type 0} (session level : ℕ) (edits : List (Edit D)) : Type 0 where
  pub same : (clock : ℕ) (viewer : Viewer) →
      deeds_in clock viewer (released session level edits) ≡ deeds_in clock (before_release session level viewer) edits

-- After an undoing each view has what another had before: of the session what is below the level.
pub record UndoesViews {D : Type 0} (session level : ℕ) (edits : List (Edit D)) : Type 0 where
  pub same : (clock : ℕ) (viewer : Viewer) →
      view clock viewer (undone session level edits) ≡ view clock (before_undo session level viewer) edits

-- After a commit a later view of nobody has the deeds that the session's own had, and no earlier view of others changes.
pub record CommitsViews {D : Type 0} (session clock : ℕ) (edits : List (Edit D)) : Type 0 where
  pub later : (n : ℕ) → clock < n → deeds_in n Nobody (committed session clock edits) ≡ deeds_in n (Whole session) edits
  pub earlier : (n : ℕ) (viewer : Viewer) → n ≤ clock → looks_as session viewer ≡ false →
      deeds_in n viewer (committed session clock edits) ≡ deeds_in n viewer edits

-- An edit more is in no view of others while it is open, and in no view at its clock or before.
pub record AddsToViews {D : Type 0} (made : ℕ) (deed : D) (edits : List (Edit D)) : Type 0 where
  pub hidden : (session level clock : ℕ) (viewer : Viewer) → looks_as session viewer ≡ false →
      view clock viewer (with_edit made (Running session level) deed edits) ≡ view clock viewer edits
  pub later : (clock : ℕ) (viewer : Viewer) (owner : Owner) → clock ≤ made →
      view clock viewer (with_edit made owner deed edits) ≡ view clock viewer edits
