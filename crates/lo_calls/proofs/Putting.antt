-- lo_put, at each of its exits.
use Rattle.std.proofs.Common.{◌≡◌, ℕ, ℤ, pos, Bool, true, false, List, [], ◌∷◌, length, refl, ap, ◌∙◌}
use Rattle.lo_base.specs.declared.refusal.Cause.TheVariants.{NoObject}
use Rattle.lo_base.specs.declared.refusal.Denied.{Denied}
use Rattle.lo_base.specs.declared.refusal.Refusal.{Refusal}
use Rattle.lo_base.specs.declared.reply.Reply.TheVariants.{Word}
use Rattle.lo_base.specs.declared.reply.Word.TheVariants as words
use Rattle.lo_model.specs.Edit.{Deed, Edit}
use Rattle.lo_model.specs.Listing.{has_object}
use Rattle.xact_core.specs.declared.snapshot.Snapshot.{Snapshot}
use Rattle.xact_core.specs.Kept.{current}
use Rattle.lo_pages.specs.Outcome.{first_of, largest_size, held_by, write_refused, write_made, Adds}
use Rattle.lo_pages.specs.Outcome as pages
use Rattle.lo_pages.specs.Standing.{ReadsAs}
use Rattle.lo_calls.specs.Arguments.{IsOffset, IsNoOffset}
use Rattle.lo_calls.specs.ObjectRows.{writes, put_row}
use Rattle.lo_calls.specs.Row.{Here}
use Rattle.lo_calls.specs.Terms.{no_object, bad_offset, bad_write, busy_for, count_of}
use Rattle.lo_calls.specs.World.{World, here_of, IsReady, Grants, Refuses, Denies}
use Rattle.lo_calls.proofs.Busy.{busy_writing}
use Rattle.lo_calls.proofs.Refusing.{skip, stop, skip_second}
use Rattle.lo_calls.proofs.Seeing.{missing, present}
use Rattle.lo_calls.proofs.Worlds.{made_of, pages_deny, pages_grant}

pub written : (w : World) (o at : ℕ) (bytes : List ℕ) → made_of w (writes o at bytes) ≡ write_made w.xacts w.session.s o at bytes
written w o at [] = refl
written w o at (b ∷ bytes) = refl

module _ (o : ℕ) (at : ℤ) (bytes : List ℕ) (w : World) (ready : IsReady w) (snap : Snapshot) (now : snap ≡ current w.xacts w.session.s) (found : Bool) (exists : (edits : List (Edit Deed)) → ReadsAs w.xacts snap w.store.pages edits → found ≡ has_object edits o) where
  pub put_missing : found ≡ false → Refuses (put_row o at bytes) w w (record { cause = NoObject; subject = pos o })
  put_missing none = record { first = λ ys stands. stop _ _ _ (missing w ready snap now o found exists none ys stands); same = refl }

  pub put_bad_offset : found ≡ true → (r : Refusal) → IsNoOffset at r → Refuses (put_row o at bytes) w w r
  put_bad_offset there r bad = record { first = λ ys stands. skip _ _ (present w ready snap now o found exists there ys stands) ∙ stop _ _ r bad.bad; same = refl }

module _ (o : ℕ) (at : ℤ) (bytes : List ℕ) (old new : World) (n : ℕ) (offset : IsOffset at n) where
  -- the pages' own refusals are the row's, behind a good offset
  put_agrees : (ys : List (Edit Deed)) → first_of (put_row o at bytes (here_of old ys)).refusals ≡ write_refused old.xacts old.session.s o n bytes ys
  put_agrees ys =
      let here : Here = here_of old ys in
      skip_second (no_object here o) (bad_offset at) _ offset.good
      ∙ (ap (λ m. first_of (no_object here o ∷ bad_write m (length bytes) ∷ busy_for here (writes o m bytes) ∷ [])) (ap count_of offset.is)
      ∙ ap (λ term. first_of (no_object here o ∷ bad_write n (length bytes) ∷ term ∷ [])) (busy_writing here o n bytes))

  module _ (xacts : new.xacts ≡ old.xacts) (session : new.session ≡ old.session) (counter : new.store.counter ≡ old.store.counter) where
    pub put_denied : (d : Denied) → pages.Denies old.xacts old.session.s (write_refused old.xacts old.session.s o n bytes) old.store.pages new.store.pages d → Denies (put_row o at bytes) old new d
    put_denied = pages_deny old new xacts session (put_row o at bytes) (write_refused old.xacts old.session.s o n bytes) (λ ys stands. put_agrees ys) counter

    pub put_done : Adds old.xacts (write_refused old.xacts old.session.s o n bytes) (write_made old.xacts old.session.s o n bytes) old.store.pages new.store.pages → Grants (put_row o at bytes) old new (Word words.Ok)
    put_done adds = pages_grant old new xacts session (put_row o at bytes) (write_refused old.xacts old.session.s o n bytes) (λ ys stands. put_agrees ys) (Word words.Ok) (write_made old.xacts old.session.s o n bytes) adds (λ ys stands. record { answer = refl; deeds = ap (λ m. made_of old (writes o m bytes)) (ap count_of offset.is) ∙ written old o n bytes; descriptors = refl; counter = counter })
