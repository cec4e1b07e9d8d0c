-- Which numbers are free.
use Rattle.std.proofs.Common.{◌≡◌, ℕ, ◌+◌, ◌/◌, ◌≤◌, inl, inr, Bool, true, false, List, [], ◌∷◌, length, Option, Some, None, refl, ap, sym, ◌∙◌, arith}
use Rattle.std.specs.Prelude.{is_some, ◌==◌, ◌||◌, ◌&&◌, nat_le, if◌then◌else◌}
use Rattle.std.proofs.lemmas.Bool.{cases_eq}
use Rattle.std.proofs.lemmas.Bool.Decides.{nat_tests}
use Rattle.lo_model.specs.declared.owner.Owner.{Owner}
use Rattle.lo_model.specs.declared.owner.Owner.TheVariants.{Running, Committed}
use Rattle.lo_model.specs.Edit.{Deed, Create, Write, Cut, Unlink, Put, Delete, Edit}
use Rattle.lo_model.specs.Numbering.{is_on, is_running, has_open_edit}
use Rattle.lo_model.specs.Touch.{WholeObject, touched, meets, other_session, lower_of, holder_of, busy_with}
use Rattle.xact_core.specs.Transactions.{Transactions}
use Rattle.row_versions.specs.Stack.{Each}
use Rattle.lo_pages.specs.declared.pages.Pages.{Pages}
use Rattle.lo_pages.specs.Object.{IsProper}
use Rattle.lo_pages.specs.Standing.{StandFor, last_number, page_value, stores_of}
use Rattle.lo_pages.specs.Steps.{HasHolder}
use Rattle.lo_pages.specs.Stores.{IsProperEdit}
use Rattle.lo_pages.proofs.Adding.{searched}
use Rattle.lo_pages.proofs.Searching.{search_is_busy, spans_whole}

lower_some : (a b : Option ℕ) → is_some (lower_of a b) ≡ (is_some a || is_some b)
lower_some None b = refl
lower_some (Some a) None = refl
lower_some (Some a) (Some b) = refl

mixed : (a b c d : Bool) → ((a || b) || (c || d)) ≡ ((a || c) || (b || d))
mixed true b c d = refl
mixed false true true d = refl
mixed false true false d = refl
mixed false false c d = refl

turned_test : (o p : ℕ) → (o == p) ≡ (p == o)
turned_test o p = elim (cases_eq o p) [
  | inl same ↦ grind (arith, nat_tests, same)
  | inr apart ↦ grind (arith, nat_tests, apart)
]

-- an edit meets an object where it is on it
meets_is : (o : ℕ) (d : Deed) → IsProper d → meets (WholeObject o) (touched d) ≡ is_on o d
meets_is o (Create p) proper = turned_test o p
meets_is o (Write p at []) proper = absurd (omega (arith, proper))
meets_is o (Write p at (b ∷ bytes)) proper = let test : nat_le (at / 2048) ((at + length bytes) / 2048) ≡ true = (let order : at / 2048 ≤ (at + length bytes) / 2048 = omega arith in grind (arith, nat_tests, order)) in rw test (and_true (o == p) ∙ turned_test o p)
  where
    and_true : (c : Bool) → (c && true) ≡ c
    and_true true = refl
    and_true false = refl
meets_is o (Cut p n) proper = turned_test o p
meets_is o (Unlink p) proper = turned_test o p
meets_is o (Put table id values stored) proper = refl
meets_is o (Delete table id) proper = refl

-- of two sessions, one is another than the owner of an open edit
by_owner : (m : Bool) (w : Owner) → (is_some (if m then other_session 1 w else None) || is_some (if m then other_session 2 w else None)) ≡ (is_running w && m)
by_owner false (Running t l) = refl
by_owner false (Committed c) = refl
by_owner true (Committed c) = refl
by_owner true (Running t l) = elim (cases_eq t 1) [
  | inl same ↦ (let one : (t == 1) ≡ true = grind (arith, nat_tests, same) in let two : (t == 2) ≡ false = (let apart : t ≡ 2 → ⊥ = λ is. omega (arith, is, same) in grind (arith, nat_tests, apart)) in rw (one, two) refl)
  | inr apart ↦ (let one : (t == 1) ≡ false = grind (arith, nat_tests, apart) in rw one refl)
]

both_busy : (o : ℕ) (ys : List (Edit Deed)) → Each IsProperEdit ys → (is_some (busy_with 1 (WholeObject o) ys) || is_some (busy_with 2 (WholeObject o) ys)) ≡ has_open_edit o ys
both_busy o [] proper = refl
both_busy o (e ∷ es) proper =
    let first : is_some (busy_with 1 (WholeObject o) (e ∷ es)) ≡ (is_some (holder_of 1 (WholeObject o) e) || is_some (busy_with 1 (WholeObject o) es)) = lower_some (holder_of 1 (WholeObject o) e) (busy_with 1 (WholeObject o) es) in
    let second : is_some (busy_with 2 (WholeObject o) (e ∷ es)) ≡ (is_some (holder_of 2 (WholeObject o) e) || is_some (busy_with 2 (WholeObject o) es)) = lower_some (holder_of 2 (WholeObject o) e) (busy_with 2 (WholeObject o) es) in
    let here : (is_some (holder_of 1 (WholeObject o) e) || is_some (holder_of 2 (WholeObject o) e)) ≡ (is_running e.owner && is_on o e.deed) = by_owner (meets (WholeObject o) (touched e.deed)) e.owner ∙ ap (λ (m : Bool). is_running e.owner && m) (meets_is o e.deed proper.0) in
    ap (λ (c : Bool). c || is_some (busy_with 2 (WholeObject o) (e ∷ es))) first
    ∙ (ap (λ (c : Bool). (is_some (holder_of 1 (WholeObject o) e) || is_some (busy_with 1 (WholeObject o) es)) || c) second
    ∙ (mixed (is_some (holder_of 1 (WholeObject o) e)) (is_some (busy_with 1 (WholeObject o) es)) (is_some (holder_of 2 (WholeObject o) e)) (is_some (busy_with 2 (WholeObject o) es))
    ∙ (ap (λ (c : Bool). c || (is_some (busy_with 1 (WholeObject o) es) || is_some (busy_with 2 (WholeObject o) es))) here
    ∙ ap (λ (c : Bool). (is_running e.owner && is_on o e.deed) || c) (both_busy o es proper.1))))

module _ (x : Transactions) (pages : Pages) (o : ℕ) where
  busy_of : (s : ℕ) (r : Option ℕ) → HasHolder x s o 0 last_number pages r → (ys : List (Edit Deed)) → StandFor x pages ys → r ≡ busy_with s (WholeObject o) ys
  busy_of s r holder ys stands = sym (searched x s o pages 0 last_number r holder) ∙ search_is_busy page_value x (stores_of pages) ys stands.stand s (WholeObject o) o 0 last_number (spans_whole (stores_of pages) o last_number (stands.above o))

  pub open_is : (r q : Option ℕ) → HasHolder x 1 o 0 last_number pages r → HasHolder x 2 o 0 last_number pages q → (ys : List (Edit Deed)) → StandFor x pages ys → (is_some r || is_some q) ≡ has_open_edit o ys
  open_is r q first second ys stands =
      ap (λ (p : Option ℕ). is_some p || is_some q) (busy_of 1 r first ys stands)
      ∙ (ap (λ (p : Option ℕ). is_some (busy_with 1 (WholeObject o) ys) || is_some p) (busy_of 2 q second ys stands)
      ∙ both_busy o ys stands.stand.proper)
