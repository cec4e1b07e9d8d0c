-- The view that a descriptor reads in, and what it reads there.
use Rattle.std.proofs.Common.{◌≡◌, ℕ, ℤ, pos, ◌+◌, List, length, Option, Some, refl, ap, sym, subst, ◌∙◌}
use Rattle.std.specs.Prelude.{Contains, IfSome}
use Rattle.std.proofs.lemmas.List.Elements.{All-contains}
use Rattle.lo_model.specs.declared.viewer.Viewer.TheVariants.{Whole}
use Rattle.lo_model.specs.Descriptor as model
use Rattle.lo_model.specs.Edit.{Deed, Edit}
use Rattle.lo_model.specs.Object.{object_in}
use Rattle.lo_model.specs.View.{view, current_view}
use Rattle.xact_core.specs.declared.snapshot.Snapshot.{Snapshot}
use Rattle.xact_core.specs.Kept.{view_at}
use Rattle.xact_core.specs.Transactions.{Transactions}
use Rattle.xact_core.proofs.KeptViews.{held_kept}
use Rattle.lo_pages.specs.Standing.{StandFor, ReadsAs}
use Rattle.lo_pages.proofs.Standing.{reads_as}
use Rattle.lo_calls.specs.Access.{ReadsIn, CountsFrom}
use Rattle.lo_calls.specs.declared.descs.Descriptor.{Descriptor}
use Rattle.lo_calls.specs.declared.descs.Descs.{Descs}
use Rattle.lo_calls.specs.DescriptorRows.{bytes_at}
use Rattle.lo_calls.specs.Descriptors.{reading_of, described_by, AreOpen, AreHeld, IsOwnHold}
use Rattle.lo_calls.specs.World.{World, here_of}
use Rattle.lo_calls.proofs.Closing.{hold_there}

-- one of the open descriptors: whose its hold is, and that it is held

pub hold_own : (x : Transactions) (s : ℕ) (descs : Descs) (d : Descriptor) → AreOpen x s descs → Contains descs.entries.items d → IsOwnHold s d.hold
hold_own x s descs d are here = All-contains (λ (e : Descriptor). IsOwnHold s e.hold) descs.entries.items d are.holds here

pub hold_among : (x : Transactions) (descs : Descs) (d : Descriptor) → AreHeld x descs → Contains descs.entries.items d → IfSome d.hold (Contains x.held)
hold_among x descs d are here = hold_there x descs here.0 d here.1 (sym here.2) are

pub reads_held : (x : Transactions) (s : ℕ) (d : Descriptor) (hold view : Snapshot) → d.hold ≡ Some hold → view ≡ hold → IsOwnHold s d.hold → IfSome d.hold (Contains x.held) → ReadsIn x s d view
reads_held x s d hold view some is own held = record {
  kept = held_kept x view (subst (Contains x.held) (sym is) (subst (λ (o : Option Snapshot). IfSome o (Contains x.held)) some held));
  is = is ∙ ap (view_at hold.clock) viewer ∙ ap (λ (o : Option Snapshot). view_at (model.reading_clock (x.clock + 1) (reading_of o)) (Whole s)) (sym some);
}
  where
    viewer : hold.viewer ≡ Whole s
    viewer = subst (IsOwnHold s) some own

-- what it reads there
module _ (w : World) (d : Descriptor) (v : Snapshot) (reads : ReadsIn w.xacts w.session.s d v) where
  pub reads_edits : (ys : List (Edit Deed)) → StandFor w.xacts w.store.pages ys → ReadsAs w.xacts v w.store.pages (current_view (model.reading_clock (w.xacts.clock + 1) (reading_of d.hold)) w.session.s ys)
  reads_edits ys stands = subst (λ (u : Snapshot). ReadsAs w.xacts v w.store.pages (view u.clock u.viewer ys)) reads.is (reads_as w.xacts w.store.pages ys v stands reads.kept)

  pub reads_size : (size : ℕ) → ((edits : List (Edit Deed)) → ReadsAs w.xacts v w.store.pages edits → size ≡ length (model.bytes_or_none (object_in d.oid edits))) → (ys : List (Edit Deed)) → StandFor w.xacts w.store.pages ys → size ≡ length (bytes_at (here_of w ys) (described_by d))
  reads_size size is ys stands = is (current_view (model.reading_clock (w.xacts.clock + 1) (reading_of d.hold)) w.session.s ys) (reads_edits ys stands)

  pub counts_from_end : (whence : ℤ) (size : ℕ) → whence ≡ pos 2 → ((edits : List (Edit Deed)) → ReadsAs w.xacts v w.store.pages edits → size ≡ length (model.bytes_or_none (object_in d.oid edits))) → CountsFrom w d whence size
  counts_from_end whence size two is = record { good = rw two refl; is = λ ys stands. rw two (reads_size size is ys stands) }
