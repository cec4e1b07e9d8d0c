-- lo_from_bytea: a creation, and then a write of the object that was made.
use Rattle.std.proofs.Common.{◌≡◌, ℕ, ◌+◌, pos, Bool, true, false, List, [], ◌∷◌, ◌++◌, Option, Some, None, refl, ap, sym, subst, ◌∙◌, append_assoc, arith}
use Rattle.std.specs.Prelude.{◌==◌, if◌then◌else◌}
use Rattle.std.proofs.lemmas.Bool.{false≢true}
use Rattle.std.proofs.lemmas.Bool.Decides.{nat_tests}
use Rattle.lo_base.specs.declared.refusal.Denied.{Denied}
use Rattle.lo_base.specs.declared.refusal.Denied.TheVariants.{By, NoMemory}
use Rattle.lo_base.specs.declared.reply.Reply.TheVariants.{Number}
use Rattle.lo_model.specs.Edit.{Deed, Create, Edit}
use Rattle.xact_core.specs.Transactions.{Transactions}
use Rattle.row_versions.specs.Stands.{made_now}
use Rattle.lo_pages.specs.declared.pages.Pages.{Pages}
use Rattle.lo_pages.specs.Outcome.{first_of, create_refused, write_refused, write_made, Adds, IsNoMemory, LeavesOwn}
use Rattle.lo_pages.specs.Outcome as pages
use Rattle.lo_pages.specs.Standing.{StandFor}
use Rattle.lo_pages.proofs.Steps.{left_more}
use Rattle.lo_calls.specs.Numbers.{IsNumber}
use Rattle.lo_calls.specs.ObjectRows.{number_or_0, number_for, no_number, counter_after, writes, creation, picked, create_row}
use Rattle.lo_calls.specs.Row.{Here}
use Rattle.lo_calls.specs.Terms.{no_oids, object_exists, busy_for}
use Rattle.lo_calls.specs.World.{World, here_of, Grants, Denies}
use Rattle.lo_calls.proofs.Busy.{busy_creating}
use Rattle.lo_calls.proofs.Putting.{written}
use Rattle.lo_calls.proofs.Refusing.{skip}
use Rattle.lo_calls.proofs.Worlds.{made_of, no_memory, pages_deny, pages_grant}

-- the number that a test of the one that is asked for leads to
numbered : (zero : Bool) (least : Option ℕ) (asked number : ℕ) → (if zero then least else Some asked) ≡ Some number → ((if zero then number_or_0 least else asked) ≡ number) × ((if zero then no_oids least else None) ≡ None)
numbered true least asked number is = (ap number_or_0 is, ap no_oids is)
numbered false least asked number is = (ap number_or_0 is, refl)

counted : (zero : Bool) (least asked number counter : ℕ) → zero ≡ true → (if zero then least else asked) ≡ number → number + 1 ≡ (if zero then least + 1 else counter)
counted true least asked number counter is same = ap (λ m. m + 1) (sym same)
counted false least asked number counter is same = absurd (false≢true is)

uncounted : (zero : Bool) (least counter : ℕ) → zero ≡ false → counter ≡ (if zero then least + 1 else counter)
uncounted zero least counter is = rw is refl

module _ (o : ℕ) (bytes : List ℕ) (old new : World) (n : ℕ) (number : IsNumber old.xacts old.store o n) where
  named : (ys : List (Edit Deed)) → StandFor old.xacts old.store.pages ys → (number_for (here_of old ys) o ≡ n) × (no_number (here_of old ys) o ≡ None)
  named ys stands = numbered (o == 0) (picked (here_of old ys)) o n (number.is ys stands)

  -- the pages' own refusals of the creation are the row's, behind a number
  create_agrees : (ys : List (Edit Deed)) → StandFor old.xacts old.store.pages ys → first_of (create_row o bytes (here_of old ys)).refusals ≡ create_refused old.xacts old.session.s n ys
  create_agrees ys stands =
      let here : Here = here_of old ys in
      skip _ _ (named ys stands).1
      ∙ (ap (λ m. first_of (object_exists here m ∷ busy_for here (Create m ∷ writes m 0 bytes) ∷ [])) (named ys stands).0
      ∙ ap (λ term. first_of (object_exists here n ∷ term ∷ [])) (busy_creating here n bytes))

  module _ (xacts : new.xacts ≡ old.xacts) (session : new.session ≡ old.session) where
    pub create_denied : new.store.counter ≡ old.store.counter → (d : Denied) → pages.Denies old.xacts old.session.s (create_refused old.xacts old.session.s n) old.store.pages new.store.pages d → Denies (create_row o bytes) old new d
    create_denied counter = pages_deny old new xacts session (create_row o bytes) (create_refused old.xacts old.session.s n) create_agrees counter

    module _ (mid : Pages) (x : Transactions) (same : x ≡ old.xacts) where
      pub write_denied : new.store.counter ≡ old.store.counter → LeavesOwn old.xacts old.session.s old.store.pages mid → LeavesOwn x old.session.s mid new.store.pages → (d : Denied) → IsNoMemory d → Denies (create_row o bytes) old new d
      write_denied counter first second (By r) is = absurd is
      write_denied counter first second NoMemory is = no_memory old new (left_more old.xacts old.session.s old.store.pages mid new.store.pages first (subst (λ (u : Transactions). LeavesOwn u old.session.s mid new.store.pages) same second)) counter session xacts

      both_done : Adds old.xacts (create_refused old.xacts old.session.s n) (made_now old.xacts old.session.s (Create n) ∷ []) old.store.pages mid → Adds old.xacts (write_refused old.xacts old.session.s n 0 bytes) (write_made old.xacts old.session.s n 0 bytes) mid new.store.pages → Adds old.xacts (create_refused old.xacts old.session.s n) (made_now old.xacts old.session.s (Create n) ∷ write_made old.xacts old.session.s n 0 bytes) old.store.pages new.store.pages
      both_done first second = record {
        granted = first.granted;
        stand = λ ys stands. subst (StandFor old.xacts new.store.pages) (append_assoc ys (made_now old.xacts old.session.s (Create n) ∷ []) (write_made old.xacts old.session.s n 0 bytes)) (second.stand (ys ++ made_now old.xacts old.session.s (Create n) ∷ []) (first.stand ys stands));
      }

      deeds_are : (ys : List (Edit Deed)) → StandFor old.xacts old.store.pages ys → made_of old (creation (here_of old ys) o bytes) ≡ made_now old.xacts old.session.s (Create n) ∷ write_made old.xacts old.session.s n 0 bytes
      deeds_are ys stands = ap (λ m. made_of old (Create m ∷ writes m 0 bytes)) (named ys stands).0 ∙ ap (λ (es : List (Edit Deed)). made_now old.xacts old.session.s (Create n) ∷ es) (written old n 0 bytes)

      pub create_done : ((ys : List (Edit Deed)) → StandFor old.xacts old.store.pages ys → new.store.counter ≡ counter_after (here_of old ys) o) → Adds old.xacts (create_refused old.xacts old.session.s n) (made_now old.xacts old.session.s (Create n) ∷ []) old.store.pages mid → Adds x (write_refused x old.session.s n 0 bytes) (write_made x old.session.s n 0 bytes) mid new.store.pages → Grants (create_row o bytes) old new (Number (pos n))
      create_done counter first second = pages_grant old new xacts session (create_row o bytes) (create_refused old.xacts old.session.s n) create_agrees (Number (pos n)) _ (both_done first (subst (λ (u : Transactions). Adds u (write_refused u old.session.s n 0 bytes) (write_made u old.session.s n 0 bytes) mid new.store.pages) same second)) (λ ys stands. record { answer = ap (λ m. Number (pos m)) (sym (named ys stands).0); deeds = deeds_are ys stands; descriptors = refl; counter = counter ys stands })

  -- where the counter is after it

  pub picked_counter : o ≡ 0 → (ys : List (Edit Deed)) → StandFor old.xacts old.store.pages ys → n + 1 ≡ counter_after (here_of old ys) o
  picked_counter zero ys stands = counted (o == 0) (number_or_0 (picked (here_of old ys))) o n old.store.counter (let test : (o == 0) ≡ true = grind (arith, nat_tests, zero) in test) (named ys stands).0

  pub named_counter : (o ≡ 0 → ⊥) → (ys : List (Edit Deed)) → old.store.counter ≡ counter_after (here_of old ys) o
  named_counter apart ys = uncounted (o == 0) (number_or_0 (picked (here_of old ys))) old.store.counter (let test : (o == 0) ≡ false = grind (arith, nat_tests, apart) in test)
