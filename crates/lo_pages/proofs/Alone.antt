-- An object that a session has just made, and that no other session holds anything of: a write of it is not refused.
use Rattle.std.proofs.Common.{◌≡◌, ℕ, zero, suc, ◌+◌, ◌-◌, ◌/◌, ◌<◌, ◌≤◌, Bool, true, false, List, [], ◌∷◌, ◌++◌, length, Option, Some, None, refl, ap, sym, subst, ◌∙◌, arith}
use Rattle.std.specs.Prelude.{◌==◌, nat_lt}
use Rattle.std.proofs.lemmas.Bool.Decides.{nat_tests}
use Rattle.std.proofs.lemmas.Option.{none-some}
use Rattle.lo_base.specs.declared.refusal.Refusal.{Refusal}
use Rattle.lo_model.specs.declared.owner.Owner.{Owner}
use Rattle.lo_model.specs.declared.owner.Owner.TheVariants.{Running}
use Rattle.lo_model.specs.declared.viewer.Viewer.TheVariants.{Whole}
use Rattle.lo_model.specs.Edit.{Edit}
use Rattle.lo_model.specs.Touch.{lower_of, other_session}
use Rattle.lo_model.specs.View.{sees, view}
use Rattle.xact_core.specs.Stamp.{made_at}
use Rattle.xact_core.specs.Transactions.{Transactions, levels_of}
use Rattle.row_versions.specs.Stands.{Version, standing, edit_of, after_all, replaces, lowest_other}
use Rattle.row_versions.proofs.Laws.{standing_end, after_seen}
use Rattle.lo_pages.specs.declared.pages.Pages.{Pages}
use Rattle.lo_pages.specs.Calls.{own, PutsOne, search, pages_lowest, cuts_lowest}
use Rattle.lo_pages.specs.Standing.{last_number, stores_of}
use Rattle.lo_pages.specs.Steps.{HasHolder, HeldFor, FreeSpan, HasAlone, PutsObject}
use Rattle.lo_pages.specs.Stores.{Stores, there, head_at}
use Rattle.lo_pages.proofs.Searching.{lower_none}

own_seen : (clock s level : ℕ) → sees (clock + 1) (Whole s) clock (Running s level) ≡ true
own_seen clock s level = grind (arith, nat_tests)

own_other : (s level : ℕ) → other_session s (Running s level) ≡ None
own_other s level = grind (arith, nat_tests)

-- one's own edit more is in nobody's way
lowest_own : {D : Type 0} (s : ℕ) (es : List (Edit D)) (e : Edit D) → lowest_other s es ≡ None → other_session s e.owner ≡ None → lowest_other s (es ++ e ∷ []) ≡ None
lowest_own s [] e none mine = rw mine refl
lowest_own s (f ∷ es) e none mine =
    let parts : (other_session s f.owner ≡ None) × (lowest_other s es ≡ None) = lower_none _ _ none in
    rw (parts.0, lowest_own s es e parts.1 mine) refl

module _ (x : Transactions) (s o : ℕ) (old new : Pages) (puts : PutsObject x s o true old new) where
  abbrev made : Owner
  made = Running s (length (levels_of x s))

  more : standing x ((stores_of new).objects o) ≡ standing x ((stores_of old).objects o) ++ edit_of puts.puts.put made ∷ []
  more = ap (standing x) puts.puts.is ∙ standing_end x puts.puts.put made puts.puts.is_new.owner ((stores_of old).objects o)

  there_now : head_at x (own x s) (stores_of new) o ≡ true
  there_now =
      let seen : sees (x.clock + 1) (Whole s) (made_at puts.puts.put.stamp) made ≡ true = ap (λ c. sees (x.clock + 1) (Whole s) c made) puts.puts.is_new.clock ∙ own_seen x.clock s (length (levels_of x s)) in
      ap (λ es. after_all (replaces there) false (view (x.clock + 1) (Whole s) es)) more
      ∙ (after_seen (replaces there) false (own x s) (standing x ((stores_of old).objects o)) (edit_of puts.puts.put made) seen
      ∙ (ap (λ c. there c puts.puts.put.deed) puts.puts.is_new.clock ∙ puts.puts.gives))

  pub alone_now : FreeSpan x s o 0 last_number old → HasAlone x s o new
  alone_now free = record {
    there = there_now;
    object = ap (lowest_other s) more ∙ lowest_own s (standing x ((stores_of old).objects o)) (edit_of puts.puts.put made) free.object (own_other s (length (levels_of x s)));
    pages = λ b high. ap (λ vs. lowest_other s (standing x vs)) (puts.only.pages o b) ∙ free.pages.free b (omega arith) high;
    cuts = λ b high. ap (λ vs. lowest_other s (standing x vs)) (puts.only.cuts o b) ∙ free.cuts b high;
  }

module _ (x : Transactions) (s o : ℕ) (store : Pages) (alone : HasAlone x s o store) where
  pages_none : (first count : ℕ) → first + count ≤ suc last_number → pages_lowest s x (stores_of store) o first count ≡ None
  pages_none first zero fits = refl
  pages_none first (suc n) fits = rw (alone.pages first (omega (arith, fits)), pages_none (first + 1) n (omega (arith, fits))) refl

  cuts_none : (count : ℕ) → count ≤ suc last_number → cuts_lowest s x (stores_of store) o count ≡ None
  cuts_none zero fits = refl
  cuts_none (suc n) fits = rw (alone.cuts n (omega (arith, fits)), cuts_none n (omega (arith, fits))) refl

  nobody : (first count cuts : ℕ) → first + count ≤ suc last_number → cuts ≤ suc last_number → search s x (stores_of store) o first count cuts ≡ None
  nobody first count cuts fits below = rw (alone.object, pages_none first count fits, cuts_none cuts below) refl

  pub not_held : (first last : ℕ) (r : Refusal) → first ≤ last → last ≤ last_number → HeldFor x s o first last store r → ⊥
  not_held first last r order high held =
      let count : held.holds.count ≡ suc last = held.holds.count_is in
      none-some held.session (sym (nobody first (held.holds.count - first) held.holds.count (omega (arith, count, order, high)) (omega (arith, count, high))) ∙ held.holds.is)
