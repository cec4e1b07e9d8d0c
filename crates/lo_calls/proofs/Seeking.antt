-- lo_lseek, at each of its exits behind the search of its descriptor.
use Rattle.std.proofs.Common.{◌≡◌, ℕ, ℤ, pos, Bool, List, [], ◌∷◌, Some, None, refl, ap, sym, subst, ◌∙◌, arith, append-nil}
use Rattle.std.specs.Prelude.{◌+ℤ◌, nat_lt}
use Rattle.std.proofs.lemmas.Bool.Decides.{nat_tests}
use Rattle.lo_base.specs.declared.refusal.Cause.TheVariants.{BadSeek}
use Rattle.lo_base.specs.declared.refusal.Refusal.{Refusal}
use Rattle.lo_base.specs.declared.reply.Reply.TheVariants.{Number}
use Rattle.lo_model.specs.Descriptor as model
use Rattle.lo_model.specs.Edit.{Deed, Edit}
use Rattle.lo_pages.specs.Outcome.{largest_size, first_of}
use Rattle.lo_pages.specs.Standing.{StandFor}
use Rattle.lo_calls.specs.Access.{CountsFrom, IsTarget}
use Rattle.lo_calls.specs.declared.descs.Descriptor.{Descriptor}
use Rattle.lo_calls.specs.declared.descs.Descs.{Descs}
use Rattle.lo_calls.specs.DescriptorRows.{bad_whence, bad_seek, seek_target, position_range, seek_row}
use Rattle.lo_calls.specs.Descriptors.{described_by, described_at, descriptors_of}
use Rattle.lo_calls.specs.Row.{Row}
use Rattle.lo_calls.specs.Terms.{when, is_outside, count_of}
use Rattle.lo_calls.specs.World.{World, world, here_of, IsGranted, Grants, Refuses}
use Rattle.lo_calls.proofs.Keeping.{with_descs}
use Rattle.lo_calls.proofs.Refusing.{skip, stop, fails}
use Rattle.lo_calls.proofs.Rows.{seek_found}

module _ (wide : Bool) (fd offset whence : ℤ) (w : World) (d : Descriptor) (found : described_at fd (descriptors_of w.session.descs) ≡ Some (described_by d)) where
  row_is : (ys : List (Edit Deed)) → first_of (seek_row wide fd offset whence (here_of w ys)).refusals ≡ first_of (bad_whence whence ∷ bad_seek (here_of w ys) offset whence (described_by d) ∷ position_range wide (count_of (seek_target (here_of w ys) offset whence (described_by d))) (pos d.number) ∷ [])
  row_is ys = ap (λ (row : Row). first_of row.refusals) (seek_found (here_of w ys) fd (described_by d) found wide offset whence)

  pub seek_bad_whence : (r : Refusal) → bad_whence whence ≡ Some r → Refuses (seek_row wide fd offset whence) w w r
  seek_bad_whence r bad = record { first = λ ys stands. row_is ys ∙ stop _ _ r bad; same = refl }

  module _ (base : ℕ) (counts : CountsFrom w d whence base) where
    from_base : (ys : List (Edit Deed)) → StandFor w.xacts w.store.pages ys → seek_target (here_of w ys) offset whence (described_by d) ≡ pos base +ℤ offset
    from_base ys stands = ap (λ (n : ℕ). pos n +ℤ offset) (sym (counts.is ys stands))

    pub seek_bad : (r : Refusal) → when (is_outside largest_size (pos base +ℤ offset)) BadSeek offset ≡ Some r → Refuses (seek_row wide fd offset whence) w w r
    seek_bad r bad = record {
      first = λ ys stands. row_is ys ∙ (skip _ _ counts.good ∙ stop _ _ r (ap (λ (z : ℤ). when (is_outside largest_size z) BadSeek offset) (from_base ys stands) ∙ bad));
      same = refl;
    }

    module _ (position : ℕ) (to : IsTarget base offset position) where
      target_is : (ys : List (Edit Deed)) → StandFor w.xacts w.store.pages ys → seek_target (here_of w ys) offset whence (described_by d) ≡ pos position
      target_is ys stands = from_base ys stands ∙ to.is

      within : (ys : List (Edit Deed)) → StandFor w.xacts w.store.pages ys → bad_seek (here_of w ys) offset whence (described_by d) ≡ None
      within ys stands = ap (λ (z : ℤ). when (is_outside largest_size z) BadSeek offset) (target_is ys stands) ∙ fails (nat_lt largest_size position) BadSeek offset (grind (arith, nat_tests, to.within))

      range_is : (ys : List (Edit Deed)) → StandFor w.xacts w.store.pages ys → fd ≡ pos d.number → position_range wide (count_of (seek_target (here_of w ys) offset whence (described_by d))) (pos d.number) ≡ position_range wide position fd
      range_is ys stands number = ap (λ (z : ℤ). position_range wide (count_of z) (pos d.number)) (target_is ys stands) ∙ ap (λ (z : ℤ). position_range wide position z) (sym number)

      pub seek_range : fd ≡ pos d.number → (r : Refusal) → position_range wide position fd ≡ Some r → Refuses (seek_row wide fd offset whence) w w r
      seek_range number r bad = record {
        first = λ ys stands. row_is ys ∙ (skip _ _ counts.good ∙ (skip _ _ (within ys stands) ∙ stop _ _ r (range_is ys stands number ∙ bad)));
        same = refl;
      }

      pub seek_done : fd ≡ pos d.number → position_range wide position fd ≡ None → (descs : Descs) → descriptors_of descs ≡ model.with_position d.number position (descriptors_of w.session.descs) → Grants (seek_row wide fd offset whence) w (world w.xacts w.store (with_descs w.session descs)) (Number (pos position))
      seek_done number near descs moved = record { granted = by }
        where
          by : (ys : List (Edit Deed)) → StandFor w.xacts w.store.pages ys → IsGranted (seek_row wide fd offset whence (here_of w ys)) w (world w.xacts w.store (with_descs w.session descs)) (Number (pos position)) ys
          by ys stands = subst (λ (row : Row). IsGranted row w (world w.xacts w.store (with_descs w.session descs)) (Number (pos position)) ys) (sym (seek_found (here_of w ys) fd (described_by d) found wide offset whence)) (record {
            unrefused = skip _ _ counts.good ∙ (skip _ _ (within ys stands) ∙ skip _ _ (range_is ys stands number ∙ near));
            answer = ap Number (sym (target_is ys stands));
            edits = subst (StandFor w.xacts w.store.pages) (sym (append-nil ys)) stands;
            descriptors = moved ∙ ap (λ (z : ℤ). model.with_position d.number (count_of z) (descriptors_of w.session.descs)) (sym (target_is ys stands));
            counter = refl;
          })
