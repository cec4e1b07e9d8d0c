-- The clauses of changing calls: which term of a refusal holds, and what is added where none does.
use Rattle.std.proofs.Common.{◌≡◌, ◌≢◌, ℕ, suc, ◌+◌, ◌-◌, ◌*◌, ◌/◌, ◌<◌, ◌≤◌, true, false, List, [], ◌∷◌, length, Option, Some, None, refl, ap, sym, subst, ◌∙◌, arith, append-nil}
use Rattle.std.proofs.Common.{Ok, Err}
use Rattle.std.specs.Prelude.{Result, IsErrAnd, IfErr, pos, nat_lt}
use Rattle.std.proofs.lemmas.Bool.Decides.{nat_tests}
use Rattle.lo_base.specs.declared.refusal.Cause.TheVariants.{NoObject, ObjectExists, BadWrite, BadTruncate}
use Rattle.lo_base.specs.declared.refusal.Denied.{Denied}
use Rattle.lo_base.specs.declared.refusal.Denied.TheVariants.{NoMemory}
use Rattle.lo_base.specs.declared.refusal.Refusal.{Refusal}
use Rattle.lo_model.specs.Edit.{Deed, Create, Write, Cut, Unlink, Edit}
use Rattle.lo_model.specs.Touch.{Touched, touched, busy_with}
use Rattle.xact_core.specs.Kept.{HoldsWholeViews}
use Rattle.xact_core.specs.Transactions.{Transactions, levels_of}
use Rattle.row_versions.specs.Stands.{made_now}
use Rattle.row_versions.proofs.Keeping.{whole_kept}
use Rattle.lo_pages.specs.declared.pages.Pages.{Pages}
use Rattle.lo_pages.specs.Calls.{own, search, Spans, NothingAbove, IsMaker, AddsEdit, Creates, Writes, Cuts, Drops, OtherObjects}
use Rattle.lo_pages.specs.Outcome.{has_now, held_by, first_of, create_refused, write_refused, cut_refused, drop_refused, write_made, Adds, Refuses, Denies, LeavesOwn, largest_size}
use Rattle.lo_pages.specs.Standing.{GoWith, StandFor, page_value, stores_of}
use Rattle.lo_pages.specs.Steps.{HasHolder, HeldFor, FreeSpan, OnlyObject, PutsObject, PutsPage, PutsCut, FreePages, WritesPages, ErasesFrom, found_now, page_sized}
use Rattle.lo_pages.specs.Stores.{head_at, PagesStand}
use Rattle.lo_pages.proofs.Clauses.{create_adds, drop_adds, cut_adds, write_adds}
use Rattle.lo_pages.proofs.Finding.{head_object}
use Rattle.lo_pages.proofs.Searching.{search_is_busy, search_free, spans_whole, spans_from, spans_write}
use Rattle.lo_pages.proofs.Standing.{reads_as}

-- tests of sizes
pub is_large : (m n : ℕ) → m < n → nat_lt m n ≡ true
is_large m n less = grind (arith, nat_tests, less)

pub is_small : (m n : ℕ) → n ≤ m → nat_lt m n ≡ false
is_small m n low = grind (arith, nat_tests, low)

-- a call that found no memory and has left only versions of its own
pub denied_nothing : {A : Type 0} (x : Transactions) (s : ℕ) (refused : List (Edit Deed) → Option Refusal) (old new : Pages) (r : Result A Denied) → IsErrAnd r (λ (d : Denied). d ≡ NoMemory) → LeavesOwn x s old new → IfErr r (Denies x s refused old new)
denied_nothing x s refused old new (Ok a) is left = tt
denied_nothing x s refused old new (Err d) is left = subst (λ (e : Denied). Denies x s refused old new e) (sym is) left

-- what a search that finds nobody leaves free
module _ (x : Transactions) (s o : ℕ) (old : Pages) where
  pub searched : (first last : ℕ) (found : Option ℕ) → HasHolder x s o first last old found → search s x (stores_of old) o first (suc last - first) (suc last) ≡ found
  searched first last found holder = subst (λ (n : ℕ). search s x (stores_of old) o first (n - first) n ≡ found) holder.count_is holder.is

  pub pages_free_now : (first last : ℕ) → first ≤ last → HasHolder x s o first last old None → FreePages x s o first last old
  pages_free_now first last order none = record { free = (search_free s x (stores_of old) o first last order (searched first last None none)).1.0 }

  pub span_free : (first last : ℕ) → first ≤ last → HasHolder x s o first last old None → FreeSpan x s o first last old
  span_free first last order none = record {
    holder = none;
    object = (search_free s x (stores_of old) o first last order (searched first last None none)).0;
    pages = pages_free_now first last order none;
    cuts = (search_free s x (stores_of old) o first last order (searched first last None none)).1.1;
  }

module _ (x : Transactions) (s o : ℕ) (old : Pages) (one : 1 ≤ s) (some : 0 < length (levels_of x s)) where
  -- what the session's view finds is what its edits make
  now_is : (ys : List (Edit Deed)) → StandFor x old ys → has_now x s ys o ≡ head_at x (own x s) (stores_of old) o
  now_is ys stands = sym (head_object x (own x s) old _ (reads_as x old ys (own x s) stands (whole_kept x s one some)) o)

  busy_is : (deed : Deed) (first last : ℕ) → Spans (stores_of old) (touched deed) o first last → (ys : List (Edit Deed)) → StandFor x old ys → search s x (stores_of old) o first (suc last - first) (suc last) ≡ busy_with s (touched deed) ys
  busy_is deed first last spans ys stands = search_is_busy page_value x (stores_of old) ys stands.stand s (touched deed) o first last spans

  -- the object is there where it must not be, or is not where it must

  pub create_exists : head_at x (own x s) (stores_of old) o ≡ true → Refuses x (create_refused x s o) old old (record { cause = ObjectExists; subject = pos o })
  create_exists there = record { first = λ ys stands. rw (now_is ys stands, there) refl; same = refl }

  pub write_missing : (at : ℕ) (bytes : List ℕ) → head_at x (own x s) (stores_of old) o ≡ false → Refuses x (write_refused x s o at bytes) old old (record { cause = NoObject; subject = pos o })
  write_missing at bytes missing = record { first = λ ys stands. rw (now_is ys stands, missing) refl; same = refl }

  pub cut_missing : (size : ℕ) → head_at x (own x s) (stores_of old) o ≡ false → Refuses x (cut_refused x s o size) old old (record { cause = NoObject; subject = pos o })
  cut_missing size missing = record { first = λ ys stands. rw (now_is ys stands, missing) refl; same = refl }

  pub drop_missing : head_at x (own x s) (stores_of old) o ≡ false → Refuses x (drop_refused x s o) old old (record { cause = NoObject; subject = pos o })
  drop_missing missing = record { first = λ ys stands. rw (now_is ys stands, missing) refl; same = refl }

  -- too large

  pub write_large : (at : ℕ) (bytes : List ℕ) → head_at x (own x s) (stores_of old) o ≡ true → nat_lt largest_size (at + length bytes) ≡ true → Refuses x (write_refused x s o at bytes) old old (record { cause = BadWrite; subject = pos (length bytes) })
  write_large at bytes there large = record { first = λ ys stands. rw (now_is ys stands, there, large) refl; same = refl }

  pub cut_large : (size : ℕ) → head_at x (own x s) (stores_of old) o ≡ true → nat_lt largest_size size ≡ true → Refuses x (cut_refused x s o size) old old (record { cause = BadTruncate; subject = pos size })
  cut_large size there large = record { first = λ ys stands. rw (now_is ys stands, there, large) refl; same = refl }

  -- another session holds it

  held_first : (h : Option ℕ) (r : Refusal) → held_by h ≡ Some r → first_of (held_by h ∷ []) ≡ Some r
  held_first None r is = absurd (grind arith)
  held_first (Some t) r is = is

  pub create_busy : (last : ℕ) (r : Refusal) → NothingAbove (stores_of old) o last → head_at x (own x s) (stores_of old) o ≡ false → HeldFor x s o 0 last old r → Refuses x (create_refused x s o) old old r
  create_busy last r above there held = record { first = λ ys stands. rw (now_is ys stands, there) (held_first (busy_with s (touched (Create o)) ys) r (ap held_by (sym (busy_is (Create o) 0 last (spans_whole (stores_of old) o last above) ys stands) ∙ searched x s o old _ _ _ held.holds) ∙ ap (λ (q : Refusal). Some q) (sym held.is))); same = refl }

  pub drop_busy : (last : ℕ) (r : Refusal) → NothingAbove (stores_of old) o last → head_at x (own x s) (stores_of old) o ≡ true → HeldFor x s o 0 last old r → Refuses x (drop_refused x s o) old old r
  drop_busy last r above there held = record { first = λ ys stands. rw (now_is ys stands, there) (held_first (busy_with s (touched (Unlink o)) ys) r (ap held_by (sym (busy_is (Unlink o) 0 last (spans_whole (stores_of old) o last above) ys stands) ∙ searched x s o old _ _ _ held.holds) ∙ ap (λ (q : Refusal). Some q) (sym held.is))); same = refl }

  pub cut_busy : (last : ℕ) (r : Refusal) (size : ℕ) → NothingAbove (stores_of old) o last → size / 2048 ≤ last → head_at x (own x s) (stores_of old) o ≡ true → nat_lt largest_size size ≡ false → HeldFor x s o (size / 2048) last old r → Refuses x (cut_refused x s o size) old old r
  cut_busy last r size above order there fits held = record { first = λ ys stands. rw (now_is ys stands, there, fits) (held_first (busy_with s (touched (Cut o size)) ys) r (ap held_by (sym (busy_is (Cut o size) (size / 2048) last (spans_from (stores_of old) o (size / 2048) last order above) ys stands) ∙ searched x s o old _ _ _ held.holds) ∙ ap (λ (q : Refusal). Some q) (sym held.is))); same = refl }

  pub write_busy : (r : Refusal) (at : ℕ) (bytes : List ℕ) → 0 < length bytes → head_at x (own x s) (stores_of old) o ≡ true → nat_lt largest_size (at + length bytes) ≡ false → HeldFor x s o (at / 2048) ((at + length bytes - 1) / 2048) old r → Refuses x (write_refused x s o at bytes) old old r
  write_busy r at bytes more there fits held = record { first = λ ys stands. rw (now_is ys stands, there, fits) (held_first (busy_with s (touched (Write o at bytes)) ys) r (ap held_by (sym (busy_is (Write o at bytes) (at / 2048) ((at + length bytes - 1) / 2048) (spans_write (stores_of old) o at bytes more) ys stands) ∙ searched x s o old _ _ _ held.holds) ∙ ap (λ (q : Refusal). Some q) (sym held.is))); same = refl }

  -- nothing is in the way

  maker : HoldsWholeViews x → IsMaker x s
  maker whole = record { number = one; some = some; whole = whole }

  others_of_object : (new : Pages) → OnlyObject o old new → OtherObjects o (stores_of old) (stores_of new)
  others_of_object new only = record { objects = only.objects; pages = λ p b apart. only.pages p b; cuts = λ p b apart. only.cuts p b }

  pub create_done : (last : ℕ) (new : Pages) → HoldsWholeViews x → NothingAbove (stores_of old) o last → GoWith x new → head_at x (own x s) (stores_of old) o ≡ false → HasHolder x s o 0 last old None → PutsObject x s o true old new → Adds x (create_refused x s o) (made_now x s (Create o) ∷ []) old new
  create_done last new whole above going there none by = record {
    granted = λ ys stands. rw (now_is ys stands, there, (adds.step ys stands.stand).0) refl;
    stand = λ ys stands. record { stand = (adds.step ys stands.stand).1; above = going.above };
  }
    where
      creates : Creates x s o (stores_of old) (stores_of new)
      creates = record { absent = there; object = by.puts; pages = λ b. by.only.pages o b; cuts = λ b. by.only.cuts o b; others = others_of_object new by.only }

      adds : AddsEdit page_value x s (Create o) (stores_of old) (stores_of new)
      adds = create_adds page_value x s o (stores_of old) (stores_of new) last (maker whole) above (searched x s o old _ _ _ none) creates

  pub write_done : (new : Pages) (at : ℕ) (bytes : List ℕ) → HoldsWholeViews x → GoWith x new → 0 < length bytes → head_at x (own x s) (stores_of old) o ≡ true → nat_lt largest_size (at + length bytes) ≡ false → HasHolder x s o (at / 2048) ((at + length bytes - 1) / 2048) old None → WritesPages x s o at bytes old new → Adds x (write_refused x s o at bytes) (write_made x s o at bytes) old new
  write_done new at [] whole going more there fits none by = absurd (omega (arith, more))
  write_done new at (first ∷ rest) whole going more there fits none by = record {
    granted = λ ys stands. rw (now_is ys stands, there, fits, (adds.step ys stands.stand).0) refl;
    stand = λ ys stands. record { stand = (adds.step ys stands.stand).1; above = going.above };
  }
    where
      writes : Writes page_value x s o at (first ∷ rest) (stores_of old) (stores_of new)
      writes = record {
        some = more;
        present = there;
        object = by.only.objects o;
        written = by.written;
        spared = by.spared;
        cuts = λ b. by.only.cuts o b;
        others = record { objects = λ p apart. by.only.objects p; pages = by.only.pages; cuts = λ p b apart. by.only.cuts p b };
      }

      adds : AddsEdit page_value x s (Write o at (first ∷ rest)) (stores_of old) (stores_of new)
      adds = write_adds page_value x s o (stores_of old) (stores_of new) at (first ∷ rest) (maker whole) (searched x s o old _ _ _ none) writes

  -- a write of no byte

  busy_nothing : (ys : List (Edit Deed)) → busy_with s Rattle.lo_model.specs.Touch.Nothing ys ≡ None
  busy_nothing [] = refl
  busy_nothing (e ∷ es) = busy_nothing es

  pub write_none : (at : ℕ) (bytes : List ℕ) → length bytes ≡ 0 → head_at x (own x s) (stores_of old) o ≡ true → nat_lt largest_size (at + length bytes) ≡ false → Adds x (write_refused x s o at bytes) (write_made x s o at bytes) old old
  write_none at [] empty there fits = record {
    granted = λ ys stands. rw (now_is ys stands, there, fits, busy_nothing ys) refl;
    stand = λ ys stands. subst (λ (zs : List (Edit Deed)). StandFor x old zs) (sym (append-nil ys)) stands;
  }
  write_none at (first ∷ rest) empty there fits = absurd (omega (arith, empty))

  pub drop_done : (last : ℕ) (mid new : Pages) → HoldsWholeViews x → NothingAbove (stores_of old) o last → GoWith x new → head_at x (own x s) (stores_of old) o ≡ true → HasHolder x s o 0 last old None → ErasesFrom x s o 0 old mid → PutsObject x s o false mid new → Adds x (drop_refused x s o) (made_now x s (Unlink o) ∷ []) old new
  drop_done last mid new whole above going there none erases by = record {
    granted = λ ys stands. rw (now_is ys stands, there, (adds.step ys stands.stand).0) refl;
    stand = λ ys stands. record { stand = (adds.step ys stands.stand).1; above = going.above };
  }
    where
      drops : Drops page_value x s o (stores_of old) (stores_of new)
      drops = record {
        object = subst (λ vs. Rattle.lo_pages.specs.Calls.PutsOne x s Rattle.lo_pages.specs.Stores.there false vs ((stores_of new).objects o)) (erases.only.objects o) by.puts;
        pages = λ b. subst (λ vs. Rattle.lo_pages.specs.Calls.Next false x s page_value (found_now x s old o b) None ((stores_of old).pages o b) vs) (sym (by.only.pages o b)) (erases.erased b (omega arith));
        cuts = λ b. by.only.cuts o b ∙ erases.only.cuts o b;
        others = record {
          objects = λ p apart. by.only.objects p apart ∙ erases.only.objects p;
          pages = λ p b apart. by.only.pages p b ∙ erases.only.pages p b apart;
          cuts = λ p b apart. by.only.cuts p b ∙ erases.only.cuts p b;
        };
      }

      adds : AddsEdit page_value x s (Unlink o) (stores_of old) (stores_of new)
      adds = drop_adds page_value x s o (stores_of old) (stores_of new) last (maker whole) above (searched x s o old _ _ _ none) drops

  -- first the page of the new end, then the pages above, then the mark
  pub cut_done : (last : ℕ) (sized erased new : Pages) (size : ℕ) → HoldsWholeViews x → NothingAbove (stores_of old) o last → GoWith x new → size / 2048 ≤ last → head_at x (own x s) (stores_of old) o ≡ true → nat_lt largest_size size ≡ false → HasHolder x s o (size / 2048) last old None → PutsPage x s o (size / 2048) (page_sized x (size - 2048 * (size / 2048)) (found_now x s old o (size / 2048))) old sized → ErasesFrom x s o (size / 2048 + 1) sized erased → PutsCut x s o (size / 2048) erased new → Adds x (cut_refused x s o size) (made_now x s (Cut o size) ∷ []) old new
  cut_done last sized erased new size whole above going order there fits none end erases mark = record {
    granted = λ ys stands. rw (now_is ys stands, there, fits, (adds.step ys stands.stand).0) refl;
    stand = λ ys stands. record { stand = (adds.step ys stands.stand).1; above = going.above };
  }
    where
      number : ℕ
      number = size / 2048

      page_same : (b : ℕ) → b ≢ (size / 2048) → (stores_of sized).pages o b ≡ (stores_of old).pages o b
      page_same b apart = end.others b apart

      last_is : (stores_of new).pages o (size / 2048) ≡ (stores_of sized).pages o (size / 2048)
      last_is = mark.only.pages o (size / 2048) ∙ erases.below (size / 2048) (omega arith)

      erased_above : (b : ℕ) → size / 2048 < b → Rattle.lo_pages.specs.Calls.Next false x s page_value (found_now x s old o b) None ((stores_of old).pages o b) ((stores_of new).pages o b)
      erased_above b more =
          let same : (stores_of sized).pages o b ≡ (stores_of old).pages o b = page_same b (λ is. omega (arith, is, more)) in
          subst (λ vs. Rattle.lo_pages.specs.Calls.Next false x s page_value (Rattle.row_versions.specs.Stands.after_all (Rattle.row_versions.specs.Stands.replaces page_value) None (Rattle.lo_model.specs.View.view (own x s).clock (own x s).viewer (Rattle.row_versions.specs.Stands.standing x vs))) None vs ((stores_of new).pages o b)) same
          (subst (λ vs. Rattle.lo_pages.specs.Calls.Next false x s page_value (found_now x s sized o b) None ((stores_of sized).pages o b) vs) (sym (mark.only.pages o b)) (erases.erased b (omega (arith, more))))

      cuts : Cuts page_value x s o size (stores_of old) (stores_of new)
      cuts = record {
        present = there;
        object = mark.only.objects o ∙ (erases.only.objects o ∙ end.only.objects o);
        end = subst (λ vs. Rattle.lo_pages.specs.Calls.PutsOne x s page_value (page_sized x (size - 2048 * (size / 2048)) (found_now x s old o (size / 2048))) ((stores_of old).pages o (size / 2048)) vs) (sym last_is) end.puts;
        above = erased_above;
        below = λ b less. mark.only.pages o b ∙ (erases.below b (omega (arith, less)) ∙ page_same b (λ is. omega (arith, is, less)));
        mark = subst (λ vs. Rattle.lo_pages.specs.Calls.PutsOne x s Rattle.lo_pages.specs.Stores.no_value tt vs ((stores_of new).cuts o (size / 2048))) (erases.only.cuts o (size / 2048) ∙ end.only.cuts o (size / 2048)) mark.puts;
        marks = λ b apart. mark.only.cuts o b (λ is at. apart at) ∙ (erases.only.cuts o b ∙ end.only.cuts o b);
        others = record {
          objects = λ p apart. mark.only.objects p ∙ (erases.only.objects p ∙ end.only.objects p);
          pages = λ p b apart. mark.only.pages p b ∙ (erases.only.pages p b apart ∙ end.only.pages p b apart);
          cuts = λ p b apart. mark.only.cuts p b (λ is at. apart is) ∙ (erases.only.cuts p b ∙ end.only.cuts p b);
        };
      }

      adds : AddsEdit page_value x s (Cut o size) (stores_of old) (stores_of new)
      adds = cut_adds page_value x s o (stores_of old) (stores_of new) size last (maker whole) order above (searched x s o old _ _ _ none) cuts
