-- What a session's current view has, told by what the pages answer in it.
use Rattle.std.proofs.Common.{◌≡◌, ℕ, pos, Bool, true, false, List, Some, None, ap, sym, subst, ◌∙◌}
use Rattle.std.specs.Prelude.{not}
use Rattle.lo_base.specs.declared.refusal.Cause.TheVariants.{NoObject}
use Rattle.lo_model.specs.Edit.{Deed, Edit}
use Rattle.lo_model.specs.Listing.{has_object}
use Rattle.xact_core.specs.declared.snapshot.Snapshot.{Snapshot}
use Rattle.xact_core.specs.Kept.{current}
use Rattle.xact_core.proofs.KeptViews.{whole_kept}
use Rattle.row_versions.specs.Looks.{IsLook}
use Rattle.lo_pages.specs.Standing.{StandFor, ReadsAs}
use Rattle.lo_pages.proofs.Standing.{reads_as}
use Rattle.lo_calls.specs.Row.{view_of}
use Rattle.lo_calls.specs.Terms.{no_object}
use Rattle.lo_calls.specs.World.{World, here_of, IsReady}
use Rattle.lo_calls.proofs.Refusing.{holds, fails}

module _ (w : World) (ready : IsReady w) (snap : Snapshot) (now : snap ≡ current w.xacts w.session.s) where
  pub looks : IsLook w.xacts snap
  looks = subst (IsLook w.xacts) (sym now) (whole_kept w.xacts w.session.s ready.transaction)

  pub reads : (ys : List (Edit Deed)) → StandFor w.xacts w.store.pages ys → ReadsAs w.xacts snap w.store.pages (view_of (here_of w ys))
  reads ys stands = subst (λ (v : Snapshot). ReadsAs w.xacts v w.store.pages (view_of (here_of w ys))) (sym now) (reads_as w.xacts w.store.pages ys (current w.xacts w.session.s) stands (whole_kept w.xacts w.session.s ready.transaction))

  module _ (o : ℕ) (found : Bool) (exists : (edits : List (Edit Deed)) → ReadsAs w.xacts snap w.store.pages edits → found ≡ has_object edits o) where
    pub missing : found ≡ false → (ys : List (Edit Deed)) → StandFor w.xacts w.store.pages ys → no_object (here_of w ys) o ≡ Some (record { cause = NoObject; subject = pos o })
    missing is ys stands = holds (not (has_object (view_of (here_of w ys)) o)) NoObject (pos o) (ap not (sym (exists (view_of (here_of w ys)) (reads ys stands)) ∙ is))

    pub present : found ≡ true → (ys : List (Edit Deed)) → StandFor w.xacts w.store.pages ys → no_object (here_of w ys) o ≡ None
    present is ys stands = fails (not (has_object (view_of (here_of w ys)) o)) NoObject (pos o) (ap not (sym (exists (view_of (here_of w ys)) (reads ys stands)) ∙ is))
