-- The loops of bodies, page by page.
use Rattle.std.proofs.Common.{◌≡◌, ◌≢◌, ℕ, ◌+◌, ◌-◌, ◌*◌, ◌<◌, ◌≤◌, inl, inr, ◌⊎◌, true, false, List, [], ◌∷◌, ◌++◌, length, Option, Some, None, refl, ap, sym, subst, ◌∙◌, arith}
use Rattle.std.proofs.lemmas.Bool.{cases_lt, false≢true}
use Rattle.lo_model.specs.Object.{laid_over}
use Rattle.xact_core.specs.Transactions.{Transactions}
use Rattle.row_versions.specs.Stands.{Version}
use Rattle.lo_pages.specs.Content.{Content, bytes_of, piece_of, is_written}
use Rattle.lo_pages.specs.Stores.{Stores, page_at}
use Rattle.lo_pages.specs.Calls.{own, PutsOne, Next, WrittenTo, ErasedTo, OtherPages}

module _ {P : Type 0} (value : ℕ → P → Option Content) (x : Transactions) (s o : ℕ) where
  -- a page is found by its key alone
  found_by : (old new : Stores P) (b : ℕ) → new.pages o b ≡ old.pages o b → page_at value x (own x s) new o b ≡ page_at value x (own x s) old o b
  found_by old new b is = rw is refl

  abbrev laid : (at : ℕ) → List ℕ → ℕ → Option Content → Option Content
  laid at bytes b found = Some (record { clock = x.clock; bytes = laid_over (at - 2048 * b) (piece_of b at bytes) (bytes_of found) })

  put_moved : (want want' : Option Content) (was was' now : List (Version P)) → want ≡ want' → was ≡ was' → PutsOne x s value want was now → PutsOne x s value want' was' now
  put_moved want want' was was' now is at puts = record { put = puts.put; is_new = puts.is_new; gives = puts.gives ∙ is; is = subst (λ (vs : List (Version P)). now ≡ vs ++ puts.put ∷ []) at puts.is }

  pub write_starts : (at : ℕ) (bytes : List ℕ) (i : ℕ) (old : Stores P) → ((b : ℕ) → b < i → is_written b at (length bytes) ≡ false) → WrittenTo value x s o at bytes i old old
  write_starts at bytes i old none = record { written = λ b less is. absurd (false≢true (sym (none b less) ∙ is)); spared = λ b is. refl; rest = λ b more. refl }

  pub write_step : (at : ℕ) (bytes : List ℕ) (i : ℕ) (old mid new : Stores P) → WrittenTo value x s o at bytes i old mid → is_written i at (length bytes) ≡ true → PutsOne x s value (laid at bytes i (page_at value x (own x s) mid o i)) (mid.pages o i) (new.pages o i) → OtherPages o i mid new → WrittenTo value x s o at bytes (i + 1) old new
  write_step at bytes i old mid new to here puts others = record { written = written; spared = spared; rest = λ b more. others.pages b (λ is. omega (arith, is, more)) ∙ to.rest b (omega (arith, more)) }
    where
      still : mid.pages o i ≡ old.pages o i
      still = to.rest i (omega arith)

      this : PutsOne x s value (laid at bytes i (page_at value x (own x s) old o i)) (old.pages o i) (new.pages o i)
      this = put_moved _ _ (mid.pages o i) (old.pages o i) (new.pages o i) (ap (laid at bytes i) (found_by old mid i still)) still puts

      written : (b : ℕ) → b < i + 1 → is_written b at (length bytes) ≡ true → PutsOne x s value (laid at bytes b (page_at value x (own x s) old o b)) (old.pages o b) (new.pages o b)
      written b less is = by_place (cases_lt b i)
        where
          by_place : (b < i) ⊎ (i ≤ b) → PutsOne x s value (laid at bytes b (page_at value x (own x s) old o b)) (old.pages o b) (new.pages o b)
          by_place (inl lower) = subst (λ (vs : List (Version P)). PutsOne x s value (laid at bytes b (page_at value x (own x s) old o b)) (old.pages o b) vs) (sym (others.pages b (λ same. omega (arith, same, lower)))) (to.written b lower is)
          by_place (inr least) = let same : i ≡ b = omega (arith, less, least) in subst (λ (c : ℕ). PutsOne x s value (laid at bytes c (page_at value x (own x s) old o c)) (old.pages o c) (new.pages o c)) same this

      spared : (b : ℕ) → is_written b at (length bytes) ≡ false → new.pages o b ≡ old.pages o b
      spared b missed = others.pages b (λ same. false≢true (sym missed ∙ subst (λ (c : ℕ). is_written c at (length bytes) ≡ true) (sym same) here)) ∙ to.spared b missed

  pub write_ends : (at : ℕ) (bytes : List ℕ) (i : ℕ) (old new : Stores P) → WrittenTo value x s o at bytes i old new → ((b : ℕ) → is_written b at (length bytes) ≡ true → b < i) → (b : ℕ) → is_written b at (length bytes) ≡ true → PutsOne x s value (laid at bytes b (page_at value x (own x s) old o b)) (old.pages o b) (new.pages o b)
  write_ends at bytes i old new to all b is = to.written b (all b is) is

  pub erase_starts : (first : ℕ) (old : Stores P) → ErasedTo value x s o first first old old
  erase_starts first old = record { erased = λ b low less. absurd (omega (arith, low, less)); below = λ b less. refl; rest = λ b more. refl }

  leaves_none : (b : ℕ) (old new : Stores P) → new.pages o b ≡ old.pages o b → page_at value x (own x s) new o b ≡ None → Next false x s value (page_at value x (own x s) old o b) None (old.pages o b) (new.pages o b)
  leaves_none b old new is none = inr (record { stays = sym (found_by old new b is) ∙ none; is = is })

  -- the next page that is found is erased
  pub erase_step : (first i j : ℕ) (old mid new : Stores P) → first ≤ i → i ≤ j → ErasedTo value x s o first i old mid → ((b : ℕ) → i ≤ b → b < j → page_at value x (own x s) mid o b ≡ None) → PutsOne x s value None (mid.pages o j) (new.pages o j) → OtherPages o j mid new → ErasedTo value x s o first (j + 1) old new
  erase_step first i j old mid new low order to none puts others = record {
    erased = erased;
    below = λ b less. others.pages b (λ is. omega (arith, is, less, low, order)) ∙ to.below b less;
    rest = λ b more. others.pages b (λ is. omega (arith, is, more)) ∙ to.rest b (omega (arith, more, order));
  }
    where
      kept : (b : ℕ) → b ≢ j → Next false x s value (page_at value x (own x s) old o b) None (old.pages o b) (mid.pages o b) → Next false x s value (page_at value x (own x s) old o b) None (old.pages o b) (new.pages o b)
      kept b apart next = subst (λ (vs : List (Version P)). Next false x s value (page_at value x (own x s) old o b) None (old.pages o b) vs) (sym (others.pages b apart)) next

      this : PutsOne x s value None (old.pages o j) (new.pages o j)
      this = put_moved None None (mid.pages o j) (old.pages o j) (new.pages o j) refl (to.rest j order) puts

      erased : (b : ℕ) → first ≤ b → b < j + 1 → Next false x s value (page_at value x (own x s) old o b) None (old.pages o b) (new.pages o b)
      erased b from less = by_place (cases_lt b i) (cases_lt b j)
        where
          by_place : (b < i) ⊎ (i ≤ b) → (b < j) ⊎ (j ≤ b) → Next false x s value (page_at value x (own x s) old o b) None (old.pages o b) (new.pages o b)
          by_place (inl lower) before = kept b (λ is. omega (arith, is, lower, order)) (to.erased b from lower)
          by_place (inr least) (inl before) = kept b (λ is. omega (arith, is, before)) (leaves_none b old mid (to.rest b least) (none b least before))
          by_place (inr least) (inr most) = let same : j ≡ b = omega (arith, less, most) in inl (subst (λ (c : ℕ). PutsOne x s value None (old.pages o c) (new.pages o c)) same this)

  -- none is found any more
  pub erase_ends : (first i : ℕ) (old new : Stores P) → ErasedTo value x s o first i old new → ((b : ℕ) → i ≤ b → page_at value x (own x s) new o b ≡ None) → (b : ℕ) → first ≤ b → Next false x s value (page_at value x (own x s) old o b) None (old.pages o b) (new.pages o b)
  erase_ends first i old new to none b from = by_place (cases_lt b i)
    where
      by_place : (b < i) ⊎ (i ≤ b) → Next false x s value (page_at value x (own x s) old o b) None (old.pages o b) (new.pages o b)
      by_place (inl lower) = to.erased b from lower
      by_place (inr least) = leaves_none b old new (to.rest b least) (none b least)
