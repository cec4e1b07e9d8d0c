-- lo_write, at each of its exits behind the search of its descriptor.
use Rattle.std.proofs.Common.{◌≡◌, ℕ, ℤ, pos, ◌+◌, List, [], ◌∷◌, ◌++◌, length, Option, Some, None, refl, ap, sym, subst, ◌∙◌}
use Rattle.lo_base.specs.declared.refusal.Denied.{Denied}
use Rattle.lo_base.specs.declared.refusal.Refusal.{Refusal}
use Rattle.lo_base.specs.declared.reply.Reply.TheVariants.{Number}
use Rattle.lo_model.specs.Descriptor as model
use Rattle.lo_model.specs.Edit.{Deed, Edit}
use Rattle.xact_core.specs.Transactions.{Transactions}
use Rattle.lo_pages.specs.declared.pages.Pages.{Pages}
use Rattle.lo_pages.specs.Outcome.{first_of, write_refused, write_made, Adds}
use Rattle.lo_pages.specs.Outcome as pages
use Rattle.lo_pages.specs.Standing.{StandFor}
use Rattle.lo_calls.specs.Access.{FindsNoneWritable}
use Rattle.lo_calls.specs.declared.descs.Descriptor.{Descriptor}
use Rattle.lo_calls.specs.declared.descs.Descs.{Descs}
use Rattle.lo_calls.specs.DescriptorRows.{no_descriptor, descriptor_of, of_descriptor, not_writable, writes_at, write_row}
use Rattle.lo_calls.specs.Descriptors.{described_by, described_at, descriptors_of}
use Rattle.lo_calls.specs.Row.{Here, Row}
use Rattle.lo_calls.specs.Terms.{no_object, bad_write}
use Rattle.lo_calls.specs.World.{World, world, here_of, IsGranted, Grants, Refuses, Denies}
use Rattle.lo_calls.proofs.Busy.{busy_writing}
use Rattle.lo_calls.proofs.Keeping.{with_descs}
use Rattle.lo_calls.proofs.Putting.{written}
use Rattle.lo_calls.proofs.Refusing.{skip}
use Rattle.lo_calls.proofs.Rows.{write_found}
use Rattle.lo_calls.proofs.Worlds.{made_of, pages_deny}

-- two terms, of which one holds, are enough to know the first that does
pub first_more : (one two : Option Refusal) (rest : List (Option Refusal)) (r : Refusal) → first_of (one ∷ two ∷ []) ≡ Some r → first_of (one ∷ two ∷ rest) ≡ Some r
first_more None None rest r first = absurd (cc)
first_more None (Some two) rest r first = first
first_more (Some one) two rest r first = first

-- no descriptor has the number, or it may not write
pub none_writable : (row : Here → Row) (rest : Here → List (Option Refusal)) (fd : ℤ) (w : World) (r : Refusal) → FindsNoneWritable fd w.session.descs r → ((here : Here) → (row here).refusals ≡ no_descriptor here fd ∷ of_descriptor not_writable (descriptor_of here fd) ∷ rest here) → Refuses row w w r
none_writable row rest fd w r none is = record { first = λ ys stands. ap first_of (is (here_of w ys)) ∙ first_more _ _ (rest (here_of w ys)) r none.first; same = refl }

-- a descriptor without a hold may write
pub may_write : (d : Descriptor) → d.hold ≡ None → not_writable (described_by d) ≡ None
may_write d writes = rw writes refl

module _ (fd : ℤ) (bytes : List ℕ) (w : World) (d : Descriptor) (found : described_at fd (descriptors_of w.session.descs) ≡ Some (described_by d)) (writes : d.hold ≡ None) where
  -- the pages' own refusals are the row's
  write_agrees : (ys : List (Edit Deed)) → first_of (write_row fd bytes (here_of w ys)).refusals ≡ write_refused w.xacts w.session.s d.oid d.position bytes ys
  write_agrees ys =
      ap (λ (row : Row). first_of row.refusals) (write_found (here_of w ys) fd (described_by d) found bytes)
      ∙ (skip _ _ (may_write d writes)
      ∙ ap (λ term. first_of (no_object (here_of w ys) d.oid ∷ bad_write d.position (length bytes) ∷ term ∷ [])) (busy_writing (here_of w ys) d.oid d.position bytes))

  pub write_denied : (new : World) → new.xacts ≡ w.xacts → new.session ≡ w.session → new.store.counter ≡ w.store.counter → (denied : Denied) → pages.Denies w.xacts w.session.s (write_refused w.xacts w.session.s d.oid d.position bytes) w.store.pages new.store.pages denied → Denies (write_row fd bytes) w new denied
  write_denied new xacts session counter = pages_deny w new xacts session (write_row fd bytes) (write_refused w.xacts w.session.s d.oid d.position bytes) (λ ys stands. write_agrees ys) counter

  pub write_done : (x : Transactions) (pages : Pages) (descs : Descs) → x ≡ w.xacts → Adds w.xacts (write_refused w.xacts w.session.s d.oid d.position bytes) (write_made w.xacts w.session.s d.oid d.position bytes) w.store.pages pages → descriptors_of descs ≡ model.with_position d.number (d.position + length bytes) (descriptors_of w.session.descs) → Grants (write_row fd bytes) w (world x (record { pages = pages; counter = w.store.counter }) (with_descs w.session descs)) (Number (pos (length bytes)))
  write_done x pages descs same adds moved = record { granted = by }
    where
      after : World
      after = world x (record { pages = pages; counter = w.store.counter }) (with_descs w.session descs)

      by : (ys : List (Edit Deed)) → StandFor w.xacts w.store.pages ys → IsGranted (write_row fd bytes (here_of w ys)) w after (Number (pos (length bytes))) ys
      by ys stands = subst (λ (row : Row). IsGranted row w after (Number (pos (length bytes))) ys) (sym (write_found (here_of w ys) fd (described_by d) found bytes)) (record {
        unrefused = ap (λ (row : Row). first_of row.refusals) (sym (write_found (here_of w ys) fd (described_by d) found bytes)) ∙ (write_agrees ys ∙ adds.granted ys stands);
        answer = refl;
        edits = subst (λ (u : Transactions). StandFor u pages (ys ++ made_of w (writes_at bytes (described_by d)))) (sym same) (subst (λ (es : List (Edit Deed)). StandFor w.xacts pages (ys ++ es)) (sym (written w d.oid d.position bytes)) (adds.stand ys stands));
        descriptors = moved;
        counter = refl;
      })
