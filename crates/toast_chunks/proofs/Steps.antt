-- One version more at one chunk, and what that leaves of the rest.
use Rattle.std.proofs.Common.{◌≡◌, ◌≢◌, ℕ, ◌<◌, ◌≤◌, ◌⊎◌, inl, inr, true, false, Bor, List, [], ◌∷◌, ◌++◌, Option, Some, None, refl, ap, sym, subst, ◌∙◌, arith, append-nil, append_assoc}
use Rattle.std.specs.Prelude.{Result, OnOk, OnErr, is_some}
use Rattle.std.specs.Prelude.{Ok, Err}
use Rattle.std.specs.Option.{option_copied}
use Rattle.std.specs.Cmp.{IsTotalOrder, nat_cmp_total}
use Rattle.std.proofs.lemmas.Bool.{cases_eq, cases_lt, false≢true}
use Rattle.std.proofs.lemmas.Cmp.{on_total, then_total}
use Rattle.xact_core.specs.declared.snapshot.Snapshot.{Snapshot}
use Rattle.xact_core.specs.Transactions.{Transactions}
use Rattle.row_versions.specs.Found.{finds}
use Rattle.row_versions.specs.Stack.{Each}
use Rattle.row_versions.specs.Stands.{Version, AddsOwn, IsNew}
use Rattle.row_versions.specs.Store.{versions_at, AddsVersion, SameVersions, GoesWith}
use Rattle.row_versions.specs.declared.store.Store.{Store}
use Rattle.toast_chunks.specs.declared.chunk_key.ChunkKey.{ChunkKey}
use Rattle.toast_chunks.specs.declared.chunks.Chunks.{Chunks}
use Rattle.toast_chunks.specs.Calls.{ChangesChunk, LeavesOwn}
use Rattle.toast_chunks.specs.Keys.{key_cmp, chunk_key}
use Rattle.toast_chunks.specs.Values.{GoWith, has_chunk, last_place, next_number, versions_of}

pub keys_total : IsTotalOrder key_cmp
keys_total = then_total (on_total (λ (k : ChunkKey). k.value) nat_cmp_total) (on_total (λ (k : ChunkKey). k.number) nat_cmp_total)

each_joined : {X : Type 0} (P : X → Type 0) (xs ys : List X) → Each P xs → Each P ys → Each P (xs ++ ys)
each_joined P [] ys here there = there
each_joined P (x ∷ xs) ys here there = (here.0, each_joined P xs ys here.1 there)

pub own_same : {D : Type 0} (x : Transactions) (s : ℕ) (old new : List (Version D)) → new ≡ old → AddsOwn x s old new
own_same x s old new same = record { more = []; is = same ∙ sym (append-nil old); own = tt }

pub own_more : {D : Type 0} (x : Transactions) (s : ℕ) (old mid new : List (Version D)) → AddsOwn x s old mid → AddsOwn x s mid new → AddsOwn x s old new
own_more {D} x s old mid new first second = record {
  more = first.more ++ second.more;
  is = second.is ∙ (ap (λ (vs : List (Version D)). vs ++ second.more) first.is ∙ append_assoc old first.more second.more);
  own = each_joined (IsNew x s) first.more second.more first.own second.own;
}

pub left_none : (x : Transactions) (s : ℕ) (chunks : Chunks) → LeavesOwn x s chunks chunks
left_none x s chunks = record { adds = λ n k. own_same x s _ _ refl; next = omega arith }

pub left_more : (x : Transactions) (s : ℕ) (old mid new : Chunks) → LeavesOwn x s old mid → LeavesOwn x s mid new → LeavesOwn x s old new
left_more x s old mid new first second = record { adds = λ n k. own_more x s _ _ _ (first.adds n k) (second.adds n k); next = omega (arith, first.next, second.next) }

-- whether a chunk is the one that changed
chunk_or_other : (m j n k : ℕ) → ((m ≡ n) × (j ≡ k)) ⊎ (m ≡ n → j ≡ k → ⊥)
chunk_or_other m j n k = elim (cases_eq m n) [
  | inl is ↦ elim (cases_eq j k) [
    | inl at ↦ inl (is, at)
    | inr apart ↦ inr (λ is at. apart at)
  ]
  | inr apart ↦ inr (λ is at. apart is)
]

keys_apart : (n k m j : ℕ) → (m ≡ n → j ≡ k → ⊥) → chunk_key m j ≢ chunk_key n k
keys_apart n k m j apart same = apart (ap (λ (q : ChunkKey). q.value) same) (ap (λ (q : ChunkKey). q.number) same)

module _ (x : Transactions) (s : ℕ) (old : Chunks) (content : Option (List ℕ)) (n k : ℕ) (q : Store ChunkKey (List ℕ)) where
  pub chunk_changed : {A E : Type 0} (r : Result A E) → OnOk r (AddsVersion key_cmp x s (chunk_key n k) content old.versions q) → OnOk r (ChangesChunk x s n k content old (record old { versions = q }))
  chunk_changed (Err e) adds = adds
  chunk_changed (Ok u) adds = record {
    next = refl;
    here = record { version = adds.version; is_new = adds.is_new; deed_is = adds.deed_is; is = adds.here };
    others = λ m j apart. adds.others (chunk_key m j) (keys_apart n k m j apart);
  }

  pub chunk_left : {A E : Type 0} (r : Result A E) → OnOk r (AddsVersion key_cmp x s (chunk_key n k) content old.versions q) → OnErr r (SameVersions key_cmp old.versions q) → LeavesOwn x s old (record old { versions = q })
  chunk_left r ok err = record { adds = λ m j. by_place r m j (chunk_or_other m j n k) ok err; next = omega arith }
    where
      by_place : {A E : Type 0} (r : Result A E) (m j : ℕ) → ((m ≡ n) × (j ≡ k)) ⊎ (m ≡ n → j ≡ k → ⊥) → OnOk r (AddsVersion key_cmp x s (chunk_key n k) content old.versions q) → OnErr r (SameVersions key_cmp old.versions q) → AddsOwn x s (versions_at key_cmp old.versions (chunk_key m j)) (versions_at key_cmp q (chunk_key m j))
      by_place (Err e) m j at adds same = own_same x s _ _ (same.same (chunk_key m j))
      by_place (Ok u) m j (inr apart) adds same = own_same x s _ _ (adds.others (chunk_key m j) (keys_apart n k m j apart))
      by_place (Ok u) m j (inl is) adds same = let key : chunk_key n k ≡ chunk_key m j = ap (λ (p : ℕ). chunk_key p k) (sym is.0) ∙ ap (λ (i : ℕ). chunk_key m i) (sym is.1) in subst (λ (p : ChunkKey). AddsOwn x s (versions_at key_cmp old.versions p) (versions_at key_cmp q p)) key (record { more = adds.version ∷ []; is = adds.here; own = (adds.is_new, tt) })

  still : {A E : Type 0} (r : Result A E) (m j : ℕ) → (m ≡ n → j ≡ k → ⊥) → OnOk r (AddsVersion key_cmp x s (chunk_key n k) content old.versions q) → OnErr r (SameVersions key_cmp old.versions q) → versions_at key_cmp q (chunk_key m j) ≡ versions_of old m j
  still (Ok u) m j apart ok err = ok.others (chunk_key m j) (keys_apart n k m j apart)
  still (Err e) m j apart ok err = err.same (chunk_key m j)

  pub chunk_goes : {A E : Type 0} (r : Result A E) → n < next_number old → k < last_place → OnOk r (AddsVersion key_cmp x s (chunk_key n k) content old.versions q) → OnErr r (SameVersions key_cmp old.versions q) → GoesWith key_cmp x q → GoWith x old → GoWith x (record old { versions = q })
  chunk_goes r used small ok err goes go = record {
    versions = goes;
    fresh = λ m j more. still r m j (λ is at. omega (arith, is, more, used)) ok err ∙ go.fresh m j more;
    small = λ m j more. still r m j (λ is at. omega (arith, at, more, small)) ok err ∙ go.small m j more;
  }

-- chunks that differ in the next number alone
pub next_goes : (x : Transactions) (old : Chunks) (n : ℕ) → next_number old ≤ n → GoWith x old → GoWith x (record old { next = n })
next_goes x old n more go = record { versions = go.versions; fresh = λ m k least. go.fresh m k (omega (arith, least, more)); small = go.small }

-- a chunk that is found has a version, so its numbers are low

pub some_copied : {A : Type 0} (r : Option (Bor A)) → is_some r ≡ is_some (option_copied r)
some_copied None = refl
some_copied (Some item) = refl

not_found : (x : Transactions) (v : Snapshot) (chunks : Chunks) (n k : ℕ) → versions_of chunks n k ≡ [] → has_chunk x v chunks n k ≡ false
not_found x v chunks n k none = ap (λ vs. is_some (finds x v vs)) none

module _ (x : Transactions) (v : Snapshot) (chunks : Chunks) (go : GoWith x chunks) (n k : ℕ) (found : has_chunk x v chunks n k ≡ true) where
  pub found_used : n < next_number chunks
  found_used = by_place (cases_lt n (next_number chunks))
    where
      by_place : (n < next_number chunks) ⊎ (next_number chunks ≤ n) → n < next_number chunks
      by_place (inl less) = less
      by_place (inr least) = absurd (false≢true (sym (not_found x v chunks n k (go.fresh n k least)) ∙ found))

  pub found_small : k < last_place
  found_small = by_place (cases_lt k last_place)
    where
      by_place : (k < last_place) ⊎ (last_place ≤ k) → k < last_place
      by_place (inl less) = less
      by_place (inr least) = absurd (false≢true (sym (not_found x v chunks n k (go.small n k least)) ∙ found))
