-- Values of several numbers that are erased, one after another.
use Rattle.std.proofs.Common.{◌≡◌, ℕ, ◌+◌, ◌<◌, ◌≤◌, ◌⊎◌, inl, inr, true, false, List, [], ◌∷◌, ◌++◌, length, take, get_or, refl, sym, ap, subst, ◌∙◌}
use Rattle.std.proofs.lemmas.Bool.{cases_eq, false≢true}
use Rattle.std.proofs.lemmas.List.{take_all}
use Rattle.xact_core.specs.Kept.{current}
use Rattle.xact_core.specs.Transactions.{Transactions}
use Rattle.row_versions.specs.Count.{Different}
use Rattle.row_versions.specs.Stack.{Each}
use Rattle.row_versions.specs.Stands.{standing, lowest_other}
use Rattle.toast_chunks.specs.declared.chunks.Chunks.{Chunks}
use Rattle.toast_chunks.specs.Calls.{ChangesOnly, Erases, IsFree, LeavesOwn}
use Rattle.toast_chunks.specs.Values.{GoWith, HasValue}
use Rattle.toast_chunks.proofs.Steps.{left_none, left_more}
use Rattle.row_tables.specs.Cells.{is_among}
use Rattle.row_tables.specs.Outside.{ErasedBetween, ErasesAll}
use Rattle.row_tables.proofs.Places.{among_earlier, among_no_more, each_at, new_at, take_next}

module _ (x : Transactions) (s : ℕ) where
  pub erases_none : (a : Chunks) → ErasesAll x s [] a a
  erases_none a = record { next = refl; here = λ n is. absurd (false≢true is); others = λ n k none. refl }

  -- a value of a new number was erased after others
  pub erases_more : (ns : List ℕ) (n : ℕ) (a b c : Chunks) → is_among ns n ≡ false → ErasesAll x s ns a b → ((bytes : List ℕ) → HasValue x (current x s) b n bytes → Erases x s n bytes b c) → ChangesOnly n b c → ErasesAll x s (ns ++ n ∷ []) a c
  erases_more ns n a b c fresh first erases only = record {
    next = only.next ∙ first.next;
    here = here;
    others = λ m k none. let parts = among_no_more ns n m none in only.others m k parts.1 ∙ first.others m k parts.0;
  }
    where
      this : ErasedBetween x s a c n
      this = record { before = b; after = c; until = λ k. first.others n k fresh; erases = erases; since = λ k. refl }

      here : (m : ℕ) → is_among (ns ++ n ∷ []) m ≡ true → ErasedBetween x s a c m
      here m is = by_place (cases_eq n m)
        where
          by_place : (n ≡ m) ⊎ (n ≡ m → ⊥) → ErasedBetween x s a c m
          by_place (inl same) = subst (λ k. ErasedBetween x s a c k) same this
          by_place (inr apart) = let it = first.here m (among_earlier ns n m apart is) in record { before = it.before; after = it.after; until = it.until; erases = it.erases; since = λ k. only.others m k (λ same. apart (sym same)) ∙ it.since k }

  -- the values of the numbers before a place are erased
  pub record ErasingTo (ns : List ℕ) (before after : Chunks) : Type 0 where
    pub erased : ErasesAll x s ns before after
    pub left : LeavesOwn x s before after
    pub goes : GoWith x after

  pub erasing_start : (ns : List ℕ) (chunks : Chunks) → GoWith x chunks → ErasingTo (take 0 ns) chunks chunks
  erasing_start ns chunks goes = record { erased = erases_none chunks; left = left_none x s chunks; goes = goes }

  module _ (ns : List ℕ) (i n : ℕ) (before mid : Chunks) (once : Different ns) (less : i < length ns) (is : n ≡ get_or ns i n) (so_far : ErasingTo (take i ns) before mid) where
    pub erasing_free : Each (IsFree x s before) ns → IsFree x s mid n
    erasing_free free = let here : IsFree x s before n = each_at (IsFree x s before) ns i n free less is in record { chunk = λ k. ap (λ vs. lowest_other s (standing x vs)) (so_far.erased.others n k (new_at ns i n once less is)) ∙ here.chunk k }

    pub erasing_next : (after : Chunks) → ((bytes : List ℕ) → HasValue x (current x s) mid n bytes → Erases x s n bytes mid after) → ChangesOnly n mid after → LeavesOwn x s mid after → GoWith x after → ErasingTo (take (i + 1) ns) before after
    erasing_next after erases only left goes = record {
      erased = subst (λ ms. ErasesAll x s ms before after) (sym (take_next ns i n less is)) (erases_more (take i ns) n before mid after (new_at ns i n once less is) so_far.erased erases only);
      left = left_more x s before mid after so_far.left left;
      goes = goes;
    }

  pub erasing_all : (ns : List ℕ) (n : ℕ) (before after : Chunks) → length ns ≤ n → ErasingTo (take n ns) before after → ErasesAll x s ns before after
  erasing_all ns n before after least done = subst (λ ms. ErasesAll x s ms before after) (take_all n ns least) done.erased
