-- Objects of what is committed: a server's pages read, in the view of it, as the edits that a state has committed, and the objects
-- of these are such as an opening can have.
use Rattle.std.proofs.Common.{◌≡◌, ◌≤◌, ℕ, ◌+◌, ◌^◌, List, [], ◌∷◌, length, Option, Some, None, ap, sym, subst, ◌∙◌, refl, arith}
use Rattle.std.specs.Prelude.{is_some}
use Rattle.std.proofs.lemmas.Bool.{false≢true}
use Rattle.lo_model.specs.declared.viewer.Viewer.TheVariants.{Nobody}
use Rattle.lo_model.specs.Descriptor.{bytes_or_none}
use Rattle.lo_model.specs.Object.{object_in}
use Rattle.lo_opening.specs.declared.opening.ObjectData.{ObjectData}
use Rattle.lo_opening.specs.Opening.{AreObjects, blocks_held}
use Rattle.lo_pages.specs.Outcome.{largest_size}
use Rattle.lo_pages.specs.Standing.{ReadsAs}
use Rattle.lo_pages.proofs.Standing.{reads_as}
use Rattle.lo_restore.specs.Objects.{AreFit, IsFit}
use Rattle.row_versions.specs.Looks.{IsLook}
use Rattle.xact_core.specs.declared.snapshot.Snapshot.{Snapshot}
use Rattle.xact_core.specs.Kept.{current_committed}
use Rattle.lo_machine.specs.declared.server.Server.{Server}
use Rattle.lo_machine.specs.Server.{StandsFor, xacts_of}
use Rattle.lo_machine.specs.Fitting.{IsSized}
use Rattle.lo_machine.specs.State.{State, committed_edits, edits}
use Rattle.lo_machine.proofs.CommittedRows.{seen_committed}
use Rattle.lo_machine.proofs.FitViews.{view_object}

-- Objects by ascending number are at most as many as there are numbers.
pub few_objects : (least held : ℕ) (os : List ObjectData) → least ≤ 2 ^ 32 → AreObjects least held os → length os + least ≤ 2 ^ 32
few_objects least held [] few are = omega (arith, few)
few_objects least held (o ∷ os) few are =
    omega (arith, are.1, few_objects (o.oid + 1) (held + blocks_held o) os (omega (arith, are.0.most)) are.2)

module _ (e : Server) (st : State) (stands : StandsFor e st) where
  pub committed_reads : (v : Snapshot) → v ≡ current_committed (xacts_of e) → IsLook (xacts_of e) v → ReadsAs (xacts_of e) v e.store.pages (committed_edits st)
  committed_reads v is kept = subst (ReadsAs (xacts_of e) v e.store.pages) (seen_committed e st stands v is) (reads_as (xacts_of e) e.store.pages (edits st) v stands.has.edits kept)

  pub committed_are_fit : AreFit (committed_edits st)
  committed_are_fit o there = by (object_in o (committed_edits st)) refl
    where
      by : (found : Option (List ℕ)) → object_in o (committed_edits st) ≡ found → IsFit (committed_edits st) o
      by None is = absurd (false≢true (sym (ap is_some is) ∙ there))
      by (Some bytes) is =
          let sized : IsSized o bytes = view_object st stands.well stands.fit Nobody o bytes is in
          record { least = sized.least; most = sized.most; size = subst (λ (found : Option (List ℕ)). length (bytes_or_none found) ≤ largest_size) (sym is) sized.size }
