-- lo_truncate, at each of its exits.
use Rattle.std.proofs.Common.{◌≡◌, ℕ, ℤ, pos, Bool, true, false, List, [], ◌∷◌, Some, None, refl, ap, sym, subst, ◌∙◌}
use Rattle.std.specs.Prelude.{negsuc}
use Rattle.std.specs.Int.{FitsUnsignedBits}
use Rattle.std.proofs.Math.IntN.{nat_abs}
use Rattle.lo_base.specs.declared.refusal.Cause.TheVariants.{NoObject, BadTruncate}
use Rattle.lo_base.specs.declared.refusal.Denied.{Denied}
use Rattle.lo_base.specs.declared.refusal.Denied.TheVariants.{By}
use Rattle.lo_base.specs.declared.reply.Reply.TheVariants.{Number}
use Rattle.lo_model.specs.Edit.{Deed, Cut, Edit}
use Rattle.lo_model.specs.Listing.{has_object}
use Rattle.xact_core.specs.declared.snapshot.Snapshot.{Snapshot}
use Rattle.xact_core.specs.Kept.{current}
use Rattle.row_versions.specs.Stands.{made_now}
use Rattle.lo_pages.specs.Outcome.{largest_size, first_of, cut_refused, Adds}
use Rattle.lo_pages.specs.Outcome as pages
use Rattle.lo_pages.specs.Standing.{StandFor, ReadsAs}
use Rattle.lo_calls.specs.Access.{DeniesSize}
use Rattle.lo_calls.specs.declared.descs.Descriptor.{Descriptor}
use Rattle.lo_calls.specs.DescriptorRows.{cuts_at, bad_truncate, truncate_row}
use Rattle.lo_calls.specs.Descriptors.{described_by, described_at, descriptors_of}
use Rattle.lo_calls.specs.Row.{Row}
use Rattle.lo_calls.specs.Terms.{is_outside, no_object, busy_for}
use Rattle.lo_calls.specs.World.{World, here_of, IsReady, Grants, Denies}
use Rattle.lo_calls.proofs.Busy.{busy_one}
use Rattle.lo_calls.proofs.Refusing.{skip, stop, holds}
use Rattle.lo_calls.proofs.Rows.{truncate_found}
use Rattle.lo_calls.proofs.Seeing.{missing, present}
use Rattle.lo_calls.proofs.Worlds.{made_of, IsRowOf, pages_deny, pages_grant}
use Rattle.lo_calls.proofs.Writing.{first_more, may_write}

-- a number that an unsigned type has is not negative
pub unsigned_is : (z : ℤ) (n : ℕ) → FitsUnsignedBits 64 z → n ≡ nat_abs z → z ≡ pos n
unsigned_is (pos m) n fits is = ap pos (sym is)
unsigned_is (negsuc m) n fits is = absurd fits

module _ (o : ℕ) (size : ℤ) (w : World) (ready : IsReady w) (snap : Snapshot) (now : snap ≡ current w.xacts w.session.s) (found : Bool) (exists : (edits : List (Edit Deed)) → ReadsAs w.xacts snap w.store.pages edits → found ≡ has_object edits o) where
  pub size_bad : found ≡ true → is_outside largest_size size ≡ true → (d : Denied) → d ≡ By (record { cause = BadTruncate; subject = size }) → DeniesSize w o size d
  size_bad there outside d is = record {
    refusal = record { cause = BadTruncate; subject = size };
    is = is;
    first = λ ys stands. skip _ _ (present w ready snap now o found exists there ys stands) ∙ stop _ _ _ (holds (is_outside largest_size size) BadTruncate size outside);
  }

  pub size_missing : found ≡ false → (d : Denied) → d ≡ By (record { cause = NoObject; subject = pos o }) → DeniesSize w o size d
  size_missing none d is = record {
    refusal = record { cause = NoObject; subject = pos o };
    is = is;
    first = λ ys stands. stop _ _ _ (missing w ready snap now o found exists none ys stands);
  }

-- the exits behind the search of the descriptor
module _ (fd size : ℤ) (w : World) (d : Descriptor) (found : described_at fd (descriptors_of w.session.descs) ≡ Some (described_by d)) (writes : d.hold ≡ None) where
  row_is : (ys : List (Edit Deed)) → first_of (truncate_row fd size (here_of w ys)).refusals ≡ first_of (no_object (here_of w ys) d.oid ∷ bad_truncate size ∷ busy_for (here_of w ys) (cuts_at size (described_by d)) ∷ [])
  row_is ys = ap (λ (row : Row). first_of row.refusals) (truncate_found (here_of w ys) fd (described_by d) found size) ∙ skip _ _ (may_write d writes)

  pub truncate_bad_size : (denied : Denied) → DeniesSize w d.oid size denied → Denies (truncate_row fd size) w w denied
  truncate_bad_size denied by = subst (Denies (truncate_row fd size) w w) (sym by.is) (record { first = λ ys stands. row_is ys ∙ first_more _ _ _ by.refusal (by.first ys stands); same = refl })

  module _ (n : ℕ) (is : size ≡ pos n) where
    -- the pages' own refusals are the row's
    cut_agrees : (ys : List (Edit Deed)) → first_of (truncate_row fd size (here_of w ys)).refusals ≡ cut_refused w.xacts w.session.s d.oid n ys
    cut_agrees ys =
        row_is ys
        ∙ (ap (λ (z : ℤ). first_of (no_object (here_of w ys) d.oid ∷ bad_truncate z ∷ busy_for (here_of w ys) (cuts_at z (described_by d)) ∷ [])) is
        ∙ ap (λ term. first_of (no_object (here_of w ys) d.oid ∷ bad_truncate (pos n) ∷ term ∷ [])) (busy_one (here_of w ys) (Cut d.oid n)))

    module _ (new : World) (xacts : new.xacts ≡ w.xacts) (session : new.session ≡ w.session) (counter : new.store.counter ≡ w.store.counter) where
      pub truncate_denied : (denied : Denied) → pages.Denies w.xacts w.session.s (cut_refused w.xacts w.session.s d.oid n) w.store.pages new.store.pages denied → Denies (truncate_row fd size) w new denied
      truncate_denied = pages_deny w new xacts session (truncate_row fd size) (cut_refused w.xacts w.session.s d.oid n) (λ ys stands. cut_agrees ys) counter

      pub truncate_done : Adds w.xacts (cut_refused w.xacts w.session.s d.oid n) (made_now w.xacts w.session.s (Cut d.oid n) ∷ []) w.store.pages new.store.pages → Grants (truncate_row fd size) w new (Number (pos 0))
      truncate_done adds = pages_grant w new xacts session (truncate_row fd size) (cut_refused w.xacts w.session.s d.oid n) (λ ys stands. cut_agrees ys) (Number (pos 0)) (made_now w.xacts w.session.s (Cut d.oid n) ∷ []) adds by
        where
          by : (ys : List (Edit Deed)) → StandFor w.xacts w.store.pages ys → IsRowOf w new (truncate_row fd size (here_of w ys)).granted (Number (pos 0)) (made_now w.xacts w.session.s (Cut d.oid n) ∷ [])
          by ys stands = subst (λ (row : Row). IsRowOf w new row.granted (Number (pos 0)) (made_now w.xacts w.session.s (Cut d.oid n) ∷ [])) (sym (truncate_found (here_of w ys) fd (described_by d) found size)) (record {
            answer = refl;
            deeds = ap (λ (z : ℤ). made_of w (cuts_at z (described_by d))) is;
            descriptors = refl;
            counter = counter;
          })
