-- The loops over the pages of an object, in the words of contracts.
use Rattle.std.proofs.Common.{◌≡◌, ℕ, ◌+◌, ◌-◌, ◌*◌, ◌/◌, ◌<◌, ◌≤◌, Bool, true, false, List, length, Option, Some, None, refl, ap, sym, ◌∙◌, arith}
use Rattle.std.specs.Prelude.{is_some}
use Rattle.std.proofs.lemmas.Bool.{false≢true}
use Rattle.std.proofs.lemmas.Bool.Decides.{nat_tests}
use Rattle.xact_core.specs.Transactions.{Transactions}
use Rattle.row_versions.specs.Stands.{standing, lowest_other}
use Rattle.lo_pages.specs.declared.pages.Pages.{Pages}
use Rattle.lo_pages.specs.Calls.{own, OtherPages}
use Rattle.lo_pages.specs.Content.{Content, is_written}
use Rattle.lo_pages.specs.Outcome.{LeavesOwn, NoneFrom, LeastFrom}
use Rattle.lo_pages.specs.Standing.{GoWith, has_page, last_number, page_value, stores_of}
use Rattle.lo_pages.specs.Steps.{found_now, page_written, OnlyPages, PutsPage, FreePages, Writing, Erasing, WritesPages, ErasesFrom}
use Rattle.lo_pages.proofs.Clauses.{written_span}
use Rattle.lo_pages.proofs.Loops.{write_starts, write_step, write_ends, erase_starts, erase_step, erase_ends}
use Rattle.lo_pages.proofs.Steps.{left_none, left_more}

only_none : (o : ℕ) (store : Pages) → OnlyPages o store store
only_none o store = record { objects = λ p. refl; pages = λ p b apart. refl; cuts = λ p b. refl }

only_more : (o : ℕ) (old mid new : Pages) → OnlyPages o old mid → OnlyPages o mid new → OnlyPages o old new
only_more o old mid new first second = record {
  objects = λ p. second.objects p ∙ first.objects p;
  pages = λ p b apart. second.pages p b apart ∙ first.pages p b apart;
  cuts = λ p b. second.cuts p b ∙ first.cuts p b;
}

module _ (x : Transactions) (s o : ℕ) where
  others_of : (j : ℕ) (want : Option Content) (old new : Pages) → PutsPage x s o j want old new → OtherPages o j (stores_of old) (stores_of new)
  others_of j want old new puts = record { pages = puts.others }

  -- writing

  pub writing_start : (at : ℕ) (bytes : List ℕ) (old : Pages) → GoWith x old → Writing x s o at bytes (at / 2048) old old
  writing_start at bytes old go = record {
    to = write_starts page_value x s o at bytes (at / 2048) (stores_of old) (λ b less. (let far : 2048 * b + 2048 ≤ at = omega (arith, less) in grind (arith, nat_tests, far)));
    only = only_none o old;
    left = left_none x s old;
    goes = go;
  }

  pub writing_step : (at : ℕ) (bytes : List ℕ) (i : ℕ) (old mid new : Pages) → Writing x s o at bytes i old mid → is_written i at (length bytes) ≡ true → PutsPage x s o i (page_written x i at bytes (found_now x s mid o i)) mid new → LeavesOwn x s mid new → GoWith x new → Writing x s o at bytes (i + 1) old new
  writing_step at bytes i old mid new w here puts left goes = record {
    to = write_step page_value x s o at bytes i (stores_of old) (stores_of mid) (stores_of new) w.to here puts.puts (others_of i _ mid new puts);
    only = only_more o old mid new w.only puts.only;
    left = left_more x s old mid new w.left left;
    goes = goes;
  }

  pub writing_end : (at : ℕ) (bytes : List ℕ) (i : ℕ) (old new : Pages) → 0 < length bytes → ((at + length bytes - 1) / 2048) + 1 ≤ i → Writing x s o at bytes i old new → WritesPages x s o at bytes old new
  writing_end at bytes i old new some far w = record {
    written = write_ends page_value x s o at bytes i (stores_of old) (stores_of new) w.to (λ b is. (let span : (at / 2048 ≤ b) × (b ≤ (at + length bytes - 1) / 2048) = written_span b at (length bytes) some is in let high : b ≤ (at + length bytes - 1) / 2048 = span.1 in omega (arith, high, far)));
    spared = w.to.spared;
    only = w.only;
  }

  pub writing_free : (at : ℕ) (bytes : List ℕ) (i last : ℕ) (old mid : Pages) → FreePages x s o (at / 2048) last old → at / 2048 ≤ i → i ≤ last → Writing x s o at bytes i old mid → lowest_other s (standing x ((stores_of mid).pages o i)) ≡ None
  writing_free at bytes i last old mid free low high w = ap (λ vs. lowest_other s (standing x vs)) (w.to.rest i (omega arith)) ∙ free.free i low high

  -- erasing

  pub erasing_start : (first : ℕ) (old : Pages) → GoWith x old → Erasing x s o first first old old
  erasing_start first old go = record { to = erase_starts page_value x s o first (stores_of old); only = only_none o old; left = left_none x s old; goes = go }

  not_there : (f : Option Content) → is_some (Rattle.std.specs.Prelude.option_map Rattle.lo_pages.specs.Stores.content_bytes f) ≡ false → f ≡ None
  not_there None is = refl
  not_there (Some page) is = absurd (false≢true (sym is))

  pub erasing_step : (first i j : ℕ) (old mid new : Pages) → first ≤ i → Erasing x s o first i old mid → LeastFrom (has_page x (own x s) mid o) i j → PutsPage x s o j None mid new → LeavesOwn x s mid new → GoWith x new → Erasing x s o first (j + 1) old new
  erasing_step first i j old mid new low e least puts left goes = record {
    to = erase_step page_value x s o first i j (stores_of old) (stores_of mid) (stores_of new) low least.low e.to none puts.puts (others_of j _ mid new puts);
    only = only_more o old mid new e.only puts.only;
    left = left_more x s old mid new e.left left;
    goes = goes;
  }
    where
      none : (b : ℕ) → i ≤ b → b < j → found_now x s mid o b ≡ None
      none b from less = by_found (has_page x (own x s) mid o b) refl
        where
          by_found : (t : Bool) → has_page x (own x s) mid o b ≡ t → found_now x s mid o b ≡ None
          by_found false is = not_there (found_now x s mid o b) is
          by_found true is = let over : j ≤ b = least.least b from is in absurd (omega (arith, over, less))

  pub erasing_end : (first i : ℕ) (old new : Pages) → Erasing x s o first i old new → NoneFrom (has_page x (own x s) new o) i → ErasesFrom x s o first old new
  erasing_end first i old new e none = record {
    erased = erase_ends page_value x s o first i (stores_of old) (stores_of new) e.to (λ b from. not_there (found_now x s new o b) (none.none b from));
    below = e.to.below;
    only = e.only;
  }

  -- no page has a number above the last one
  pub erasing_last : (first i : ℕ) (old new : Pages) → last_number < i → Erasing x s o first i old new → ErasesFrom x s o first old new
  erasing_last first i old new far e = erasing_end first i old new e (record { none = λ b from. (let beyond : last_number < b = omega (arith, far, from) in ap (λ vs. is_some (Rattle.std.specs.Prelude.option_map Rattle.lo_pages.specs.Stores.content_bytes (Rattle.row_versions.specs.Stands.after_all (Rattle.row_versions.specs.Stands.replaces page_value) None (Rattle.lo_model.specs.View.view (own x s).clock (own x s).viewer (standing x vs))))) ((e.goes.above o).pages b beyond)) })

  pub erasing_free : (first i j : ℕ) (old mid : Pages) → FreePages x s o first last_number old → first ≤ i → i ≤ j → j ≤ last_number → Erasing x s o first i old mid → lowest_other s (standing x ((stores_of mid).pages o j)) ≡ None
  erasing_free first i j old mid free low order high e = ap (λ vs. lowest_other s (standing x vs)) (e.to.rest j order) ∙ free.free j (omega (arith, low, order)) high
