-- The loops over the chunks of a value.
use Rattle.std.proofs.Common.{◌≡◌, ℕ, ◌+◌, ◌*◌, ◌<◌, ◌≤◌, ◌⊎◌, inl, inr, true, false, List, [], length, Option, Some, None, refl, ap, sym, subst, ◌∙◌, arith}
use Rattle.std.specs.Prelude.{is_some}
use Rattle.std.proofs.lemmas.Bool.{cases_eq, cases_lt, false≢true}
use Rattle.xact_core.specs.Kept.{current}
use Rattle.xact_core.specs.Transactions.{Transactions}
use Rattle.row_versions.specs.Found.{finds}
use Rattle.row_versions.specs.Stands.{Version, standing, lowest_other}
use Rattle.toast_chunks.specs.declared.chunks.Chunks.{Chunks}
use Rattle.toast_chunks.specs.Calls.{AddsOne, ChangesChunk, Erases, Erasing, IsFree, LeavesOwn, Puts, StoresAll, Storing, Takes}
use Rattle.toast_chunks.specs.Values.{GoWith, HasValue, chunk_of, has_chunk, versions_of}
use Rattle.toast_chunks.proofs.Cutting.{chunk_past, chunk_some}
use Rattle.toast_chunks.proofs.Steps.{left_more, left_none}

module _ (x : Transactions) (s value : ℕ) where
  -- a version more, where the rest of the key's versions are those of another state
  moved : (content : Option (List ℕ)) (was mid new : List (Version (Option (List ℕ)))) → mid ≡ was → AddsOne x s content mid new → AddsOne x s content was new
  moved content was mid new same adds = subst (λ (vs : List (Version (Option (List ℕ)))). AddsOne x s content vs new) same adds

  -- storing

  pub storing_start : (bytes : List ℕ) (old : Chunks) → GoWith x old → Storing x s value bytes 0 old old
  storing_start bytes old go = record {
    next = refl;
    done = λ k less. absurd (omega (arith, less));
    rest = λ k least. refl;
    others = λ n k apart. refl;
    left = left_none x s old;
    goes = go;
  }

  pub storing_step : (bytes : List ℕ) (i : ℕ) (part : List ℕ) (old mid new : Chunks) → Storing x s value bytes i old mid → chunk_of i bytes ≡ Some part → ChangesChunk x s value i (Some part) mid new → LeavesOwn x s mid new → GoWith x new → Storing x s value bytes (i + 1) old new
  storing_step bytes i part old mid new so_far is change left goes = record {
    next = change.next ∙ so_far.next;
    done = done;
    rest = λ k least. change.others value k (λ same at. omega (arith, at, least)) ∙ so_far.rest k (omega (arith, least));
    others = λ n k apart. change.others n k (λ same at. apart same) ∙ so_far.others n k apart;
    left = left_more x s old mid new so_far.left left;
    goes = goes;
  }
    where
      this : Puts x s (chunk_of i bytes) (versions_of old value i) (versions_of new value i)
      this = subst (λ (o : Option (List ℕ)). Puts x s o (versions_of old value i) (versions_of new value i)) (sym is) (moved (Some part) (versions_of old value i) (versions_of mid value i) (versions_of new value i) (so_far.rest i (omega arith)) change.here)

      done : (k : ℕ) → k < i + 1 → Puts x s (chunk_of k bytes) (versions_of old value k) (versions_of new value k)
      done k less = by_place (cases_eq k i)
        where
          by_place : (k ≡ i) ⊎ (k ≡ i → ⊥) → Puts x s (chunk_of k bytes) (versions_of old value k) (versions_of new value k)
          by_place (inl same) = subst (λ (j : ℕ). Puts x s (chunk_of j bytes) (versions_of old value j) (versions_of new value j)) (sym same) this
          by_place (inr apart) = subst (λ (vs : List (Version (Option (List ℕ)))). Puts x s (chunk_of k bytes) (versions_of old value k) vs) (sym (change.others value k (λ same at. apart at))) (so_far.done k (omega (arith, less, apart)))

  pub storing_end : (bytes : List ℕ) (i : ℕ) (old new : Chunks) → length bytes ≤ 1996 * i → Storing x s value bytes i old new → StoresAll x s value bytes old new
  storing_end bytes i old new far so_far = record { next = so_far.next; here = here; others = so_far.others }
    where
      here : (k : ℕ) → Puts x s (chunk_of k bytes) (versions_of old value k) (versions_of new value k)
      here k = by_place (cases_lt k i)
        where
          by_place : (k < i) ⊎ (i ≤ k) → Puts x s (chunk_of k bytes) (versions_of old value k) (versions_of new value k)
          by_place (inl less) = so_far.done k less
          by_place (inr least) = subst (λ (o : Option (List ℕ)). Puts x s o (versions_of old value k) (versions_of new value k)) (sym (chunk_past k bytes (omega (arith, far, least)))) (so_far.rest k least)

  pub storing_free : (bytes : List ℕ) (i : ℕ) (old mid : Chunks) → ((k : ℕ) → versions_of old value k ≡ []) → Storing x s value bytes i old mid → lowest_other s (standing x (versions_of mid value i)) ≡ None
  storing_free bytes i old mid fresh so_far = ap (λ vs. lowest_other s (standing x vs)) (so_far.rest i (omega arith) ∙ fresh i)

  -- erasing

  pub erasing_start : (old : Chunks) → GoWith x old → Erasing x s value 0 old old
  erasing_start old go = record {
    next = refl;
    found = λ k less. absurd (omega (arith, less));
    done = λ k less. absurd (omega (arith, less));
    rest = λ k least. refl;
    others = λ n k apart. refl;
    left = left_none x s old;
    goes = go;
  }

  found_as : (k : ℕ) (old mid : Chunks) → versions_of mid value k ≡ versions_of old value k → has_chunk x (current x s) mid value k ≡ has_chunk x (current x s) old value k
  found_as k old mid same = ap (λ vs. is_some (finds x (current x s) vs)) same

  pub erasing_step : (i : ℕ) (old mid new : Chunks) → Erasing x s value i old mid → has_chunk x (current x s) mid value i ≡ true → ChangesChunk x s value i None mid new → LeavesOwn x s mid new → GoWith x new → Erasing x s value (i + 1) old new
  erasing_step i old mid new so_far is change left goes = record {
    next = change.next ∙ so_far.next;
    found = found;
    done = done;
    rest = λ k least. change.others value k (λ same at. omega (arith, at, least)) ∙ so_far.rest k (omega (arith, least));
    others = λ n k apart. change.others n k (λ same at. apart same) ∙ so_far.others n k apart;
    left = left_more x s old mid new so_far.left left;
    goes = goes;
  }
    where
      still : versions_of mid value i ≡ versions_of old value i
      still = so_far.rest i (omega arith)

      found : (k : ℕ) → k < i + 1 → has_chunk x (current x s) old value k ≡ true
      found k less = by_place (cases_eq k i)
        where
          by_place : (k ≡ i) ⊎ (k ≡ i → ⊥) → has_chunk x (current x s) old value k ≡ true
          by_place (inl same) = subst (λ (j : ℕ). has_chunk x (current x s) old value j ≡ true) (sym same) (sym (found_as i old mid still) ∙ is)
          by_place (inr apart) = so_far.found k (omega (arith, less, apart))

      this : AddsOne x s None (versions_of old value i) (versions_of new value i)
      this = moved None (versions_of old value i) (versions_of mid value i) (versions_of new value i) still change.here

      done : (k : ℕ) → k < i + 1 → AddsOne x s None (versions_of old value k) (versions_of new value k)
      done k less = by_place (cases_eq k i)
        where
          by_place : (k ≡ i) ⊎ (k ≡ i → ⊥) → AddsOne x s None (versions_of old value k) (versions_of new value k)
          by_place (inl same) = subst (λ (j : ℕ). AddsOne x s None (versions_of old value j) (versions_of new value j)) (sym same) this
          by_place (inr apart) = subst (λ (vs : List (Version (Option (List ℕ)))). AddsOne x s None (versions_of old value k) vs) (sym (change.others value k (λ same at. apart at))) (so_far.done k (omega (arith, less, apart)))

  pub erasing_end : (i : ℕ) (old new : Chunks) → has_chunk x (current x s) new value i ≡ false → Erasing x s value i old new → (bytes : List ℕ) → HasValue x (current x s) old value bytes → Erases x s value bytes old new
  erasing_end i old new none so_far bytes has = record { next = so_far.next; here = here; others = so_far.others }
    where
      there : (o : Option (List ℕ)) (a b : List (Version (Option (List ℕ)))) → is_some o ≡ true → AddsOne x s None a b → Takes x s o a b
      there None a b some adds = absurd (false≢true some)
      there (Some bytes) a b some adds = adds

      far : length bytes ≤ 1996 * i
      far = by_place (cases_lt (1996 * i) (length bytes))
        where
          by_place : (1996 * i < length bytes) ⊎ (length bytes ≤ 1996 * i) → length bytes ≤ 1996 * i
          by_place (inl less) = absurd (false≢true (sym none ∙ (found_as i old new (so_far.rest i (omega arith)) ∙ ap is_some (has.chunk i ∙ chunk_some i bytes less))))
          by_place (inr least) = least

      here : (k : ℕ) → Takes x s (chunk_of k bytes) (versions_of old value k) (versions_of new value k)
      here k = by_place (cases_lt k i)
        where
          by_place : (k < i) ⊎ (i ≤ k) → Takes x s (chunk_of k bytes) (versions_of old value k) (versions_of new value k)
          by_place (inl less) = there (chunk_of k bytes) (versions_of old value k) (versions_of new value k) (sym (ap is_some (has.chunk k)) ∙ so_far.found k less) (so_far.done k less)
          by_place (inr least) = subst (λ (o : Option (List ℕ)). Takes x s o (versions_of old value k) (versions_of new value k)) (sym (chunk_past k bytes (omega (arith, far, least)))) (so_far.rest k least)

  pub erasing_free : (i : ℕ) (old mid : Chunks) → IsFree x s old value → Erasing x s value i old mid → lowest_other s (standing x (versions_of mid value i)) ≡ None
  erasing_free i old mid free so_far = ap (λ vs. lowest_other s (standing x vs)) (so_far.rest i (omega arith)) ∙ free.chunk i
