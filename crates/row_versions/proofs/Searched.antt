-- What the calls that search over keys find, in words of the store.
use Rattle.std.proofs.Common.{Bor, ℕ, ◌≡◌, ◌⊎◌, inl, inr, Bool, true, false, List, [], Option, Some, None, refl, ap, sym, subst, ◌∙◌}
use Rattle.std.specs.Prelude.{not, ◌&&◌, is_some, MatchOption}
use Rattle.std.specs.Cmp.{IsTotalOrder}
use Rattle.std.specs.List.Sorted.{IsStrictlySortedBy}
use Rattle.std.specs.Map.{keys_of, lookup}
use Rattle.std.specs.Option.{option_map_or, option_copied}
use Rattle.std.specs.Ordering.{is_gt, is_lt, is_le, ordering_reverse}
use Rattle.std.specs.BTreeMap.{get, is_at}
use Rattle.std.specs.BTreeMap.Range.{IsLeBy, entries_between, range_contains}
use Rattle.std.specs.declared.alloc.Global.{Global}
use Rattle.std.specs.declared.cmp.Ordering.{Ordering}
use Rattle.std.specs.declared.cmp.Ordering.TheVariants.{Less, Equal, Greater}
use Rattle.std.specs.declared.ops.Bound.{Bound}
use Rattle.std.specs.declared.ops.Bound.TheVariants.{Included, Unbounded}
use Rattle.std.specs.declared.vec.Vec.{Vec}
use Rattle.std.proofs.lemmas.Bool.{false≢true}
use Rattle.std.proofs.lemmas.Cmp.{upto}
use Rattle.std.proofs.lemmas.Map.Lookups.{CmpEqualImpliesEq}
use Rattle.std.proofs.lemmas.Option.{none-some}
use Rattle.xact_core.specs.declared.snapshot.Snapshot.{Snapshot}
use Rattle.xact_core.specs.Transactions.{Transactions}
use Rattle.row_versions.specs.declared.chain.Entry.{Entry}
use Rattle.row_versions.specs.declared.store.Store.{Store}
use Rattle.row_versions.specs.Chain.{versions_of}
use Rattle.row_versions.specs.Found.{finds}
use Rattle.row_versions.specs.Search.{finds_at, busy_at, IsBetween, HasNoneFrom, IsLeastFrom, HasNoneIn, IsGreatestIn, IsFreeIn, IsLowestIn}
use Rattle.row_versions.specs.Stack.{Each, IsStack}
use Rattle.row_versions.specs.Stands.{standing, lowest_other}
use Rattle.row_versions.specs.Store.{versions_at}
use Rattle.row_versions.proofs.Stacking.{each_more}
use Rattle.row_versions.proofs.Ranges.{first_key, last_key, lowest_of, passes, number_in, ascends, filter_pairwise, filter_passes, filter_each, each_found, lookup_filtered, lookup_each, number_each, first_none, IsFirst, first_is, last_none, IsLast, last_is, numbers_none, HasNumber, IsLowestOf, numbers_some}

abbrev pub Chain : (D : Type 0) → Type 0
Chain D = Vec (Entry D) Global

-- whether a view finds something in a chain
abbrev pub has_found : {D : Type 0} → Transactions → Snapshot → Chain D → Bool
has_found x v chain = is_some (finds x v (versions_of chain.items))

-- the lowest other session that has a chain open
abbrev pub busy_of : {D : Type 0} → Transactions → (session : ℕ) → Chain D → Option ℕ
busy_of x s chain = lowest_other s (standing x (versions_of chain.items))

pub found_in : {D : Type 0} (x : Transactions) (v : Snapshot) (chain : Chain D) (slice : List (Entry D)) (o : Option (Bor D)) (b : Bool) → option_copied o ≡ finds x v (versions_of slice) → slice ≡ chain.items → is_some o ≡ b → has_found x v chain ≡ b
found_in {D} x v chain slice o b found is some = ap (λ (es : List (Entry D)). is_some (finds x v (versions_of es))) (sym is) ∙ (sym (ap is_some found) ∙ (copied_some o ∙ some))
  where
    copied_some : (p : Option (Bor D)) → is_some (option_copied p) ≡ is_some p
    copied_some None = refl
    copied_some (Some d) = refl

le_is : (o : Ordering) → is_gt o ≡ false → is_le o ≡ true
le_is Less is = refl
le_is Equal is = refl
le_is Greater is = absurd (false≢true (sym is))

is_not_gt : (o : Ordering) → is_le o ≡ true → is_gt o ≡ false
is_not_gt Less is = refl
is_not_gt Equal is = refl
is_not_gt Greater is = absurd (false≢true is)

not_lt_is : (o p : Ordering) → o ≡ ordering_reverse p → is_gt o ≡ false → not (is_lt p) ≡ true
not_lt_is o Less turned is = absurd (false≢true (sym is ∙ ap is_gt turned))
not_lt_is o Equal turned is = refl
not_lt_is o Greater turned is = refl

is_not_lt : (o p : Ordering) → o ≡ ordering_reverse p → not (is_lt p) ≡ true → is_gt o ≡ false
is_not_lt o Less turned is = absurd (false≢true is)
is_not_lt o Equal turned is = ap is_gt turned
is_not_lt o Greater turned is = ap is_gt turned

both_true : (a b : Bool) → (a && b) ≡ true → (a ≡ true) × (b ≡ true)
both_true true b is = (refl, is)
both_true false b is = absurd (false≢true is)

none_if : {D : Type 0} (o : Option D) → is_some o ≡ false → o ≡ None
none_if None is = refl
none_if (Some d) is = absurd (false≢true (sym is))

module _ {K D : Type 0} (cmp : K → K → Ordering) (total : IsTotalOrder cmp) (exact : CmpEqualImpliesEq cmp) (x : Transactions) (store : Store K D) (sorted : IsStrictlySortedBy cmp (keys_of store.chains.entries)) where
  found_at : (v : Snapshot) (q : K) → is_some (finds_at cmp x v store q) ≡ passes (has_found x v) (get cmp store.chains q)
  found_at v q = by_case (get cmp store.chains q)
    where
      by_case : (o : Option (Chain D)) → is_some (finds x v (option_map_or (λ chain. versions_of chain.items) o [])) ≡ passes (has_found x v) o
      by_case None = refl
      by_case (Some chain) = refl

  open_at : (s : ℕ) (q : K) → busy_at cmp x s store q ≡ number_in (busy_of x s) (get cmp store.chains q)
  open_at s q = by_case (get cmp store.chains q)
    where
      by_case : (o : Option (Chain D)) → lowest_other s (standing x (option_map_or (λ chain. versions_of chain.items) o [])) ≡ number_in (busy_of x s) o
      by_case None = refl
      by_case (Some chain) = refl

  module _ (lo hi : Bound K) where
    abbrev part : List (K × Chain D)
    part = entries_between cmp lo hi store.chains.entries

    in_part : (v : Snapshot) (q : K) → range_contains cmp lo hi q ≡ true → is_some (finds_at cmp x v store q) ≡ passes (has_found x v) (lookup (is_at (cmp q)) part)
    in_part v q within = found_at v q ∙ ap (passes (has_found x v)) (sym (lookup_filtered cmp total exact (range_contains cmp lo hi) q within store.chains.entries))

    open_in_part : (s : ℕ) (q : K) → range_contains cmp lo hi q ≡ true → busy_at cmp x s store q ≡ number_in (busy_of x s) (lookup (is_at (cmp q)) part)
    open_in_part s q within = open_at s q ∙ ap (number_in (busy_of x s)) (sym (lookup_filtered cmp total exact (range_contains cmp lo hi) q within store.chains.entries))

    within_part : (test : Chain D → Bool) (q : K) → passes test (lookup (is_at (cmp q)) part) ≡ true → range_contains cmp lo hi q ≡ true
    within_part test q found = lookup_each cmp total exact test (λ (k : K). range_contains cmp lo hi k ≡ true) q part (filter_passes cmp total exact (λ (e : K × Chain D). range_contains cmp lo hi e.0) store.chains.entries) found

    open_within : (number : Chain D → Option ℕ) (t : ℕ) (q : K) → number_in number (lookup (is_at (cmp q)) part) ≡ Some t → range_contains cmp lo hi q ≡ true
    open_within number t q found = number_each cmp total exact number (λ (k : K). range_contains cmp lo hi k ≡ true) q t part (filter_passes cmp total exact (λ (e : K × Chain D). range_contains cmp lo hi e.0) store.chains.entries) found

  -- from a key on

  from_contains : (from q : K) → IsLeBy cmp from q → range_contains cmp (Included from) Unbounded q ≡ true
  from_contains from q low = rw (le_is (cmp from q) low) refl

  contains_from : (from q : K) → range_contains cmp (Included from) Unbounded q ≡ true → IsLeBy cmp from q
  contains_from from q is = is_not_gt (cmp from q) (both_true (is_le (cmp from q)) true is).0

  pub none_from : (v : Snapshot) (from : K) → first_key (has_found x v) (entries_between cmp (Included from) Unbounded store.chains.entries) ≡ None → HasNoneFrom cmp x v store from
  none_from v from none = record { none = λ q low. none_if (finds_at cmp x v store q) (in_part (Included from) Unbounded v q (from_contains from q low) ∙ first_none cmp total exact (has_found x v) (part (Included from) Unbounded) none q) }

  pub least_from : (v : Snapshot) (from k : K) → first_key (has_found x v) (entries_between cmp (Included from) Unbounded store.chains.entries) ≡ Some k → IsLeastFrom cmp x v store from k
  least_from v from k is = record {
    low = contains_from from k within;
    some = in_part (Included from) Unbounded v k within ∙ first.here;
    least = λ q low found. first.least q (sym (in_part (Included from) Unbounded v q (from_contains from q low)) ∙ found);
  }
    where
      first : IsFirst cmp total exact (has_found x v) (part (Included from) Unbounded) k
      first = first_is cmp total exact (has_found x v) (part (Included from) Unbounded) (filter_pairwise cmp total exact _ _ store.chains.entries (ascends cmp total exact store.chains.entries sorted)) k is

      within : range_contains cmp (Included from) Unbounded k ≡ true
      within = within_part (Included from) Unbounded (has_found x v) k first.here

  -- between two keys

  span_contains : (from to q : K) → IsBetween cmp from to q → range_contains cmp (Included from) (Included to) q ≡ true
  span_contains from to q between = rw (le_is (cmp from q) between.low, not_lt_is (cmp q to) (cmp to q) (total.antisymm q to) between.high) refl

  contains_span : (from to q : K) → range_contains cmp (Included from) (Included to) q ≡ true → IsBetween cmp from to q
  contains_span from to q is =
      let both : (is_le (cmp from q) ≡ true) × (not (is_lt (cmp to q)) ≡ true) = both_true (is_le (cmp from q)) (not (is_lt (cmp to q))) is in
      record { low = is_not_gt (cmp from q) both.0; high = is_not_lt (cmp q to) (cmp to q) (total.antisymm q to) both.1 }

  pub none_in : (v : Snapshot) (from to : K) → last_key (has_found x v) None (entries_between cmp (Included from) (Included to) store.chains.entries) ≡ None → HasNoneIn cmp x v store from to
  none_in v from to none = record { none = λ q between. none_if (finds_at cmp x v store q) (in_part (Included from) (Included to) v q (span_contains from to q between) ∙ (last_none cmp total exact (has_found x v) None (part (Included from) (Included to)) none).1 q) }

  pub greatest_in : (v : Snapshot) (from to k : K) → last_key (has_found x v) None (entries_between cmp (Included from) (Included to) store.chains.entries) ≡ Some k → IsGreatestIn cmp x v store from to k
  greatest_in v from to k is = by_last (last_is cmp total exact (has_found x v) None (part (Included from) (Included to)) (filter_pairwise cmp total exact _ _ store.chains.entries (ascends cmp total exact store.chains.entries sorted)) k is)
    where
      by_here : IsLast cmp total exact (has_found x v) (part (Included from) (Included to)) k → range_contains cmp (Included from) (Included to) k ≡ true → IsGreatestIn cmp x v store from to k
      by_here last within = record {
        between = contains_span from to k within;
        some = in_part (Included from) (Included to) v k within ∙ last.here;
        greatest = λ q between found. last.greatest q (sym (in_part (Included from) (Included to) v q (span_contains from to q between)) ∙ found);
      }

      by_last : ((None ≡ Some k) × ((q : K) → passes (has_found x v) (lookup (is_at (cmp q)) (part (Included from) (Included to))) ≡ false)) ⊎ IsLast cmp total exact (has_found x v) (part (Included from) (Included to)) k → IsGreatestIn cmp x v store from to k
      by_last (inl before) = absurd (none-some k before.0)
      by_last (inr last) = by_here last (within_part (Included from) (Included to) (has_found x v) k last.here)

  pub free_in : (s : ℕ) (from to : K) → lowest_of (busy_of x s) None (entries_between cmp (Included from) (Included to) store.chains.entries) ≡ None → IsFreeIn cmp x s store from to
  free_in s from to none = record { free = λ q between. open_in_part (Included from) (Included to) s q (span_contains from to q between) ∙ (numbers_none cmp total exact (busy_of x s) None (part (Included from) (Included to)) none).1 q }

  pub lowest_in : (s : ℕ) (from to : K) (t : ℕ) → lowest_of (busy_of x s) None (entries_between cmp (Included from) (Included to) store.chains.entries) ≡ Some t → IsLowestIn cmp x s store from to t
  lowest_in s from to t is = by_from lowest.from
    where
      lowest : IsLowestOf cmp total exact (busy_of x s) None (part (Included from) (Included to)) t
      lowest = numbers_some cmp total exact (busy_of x s) None (part (Included from) (Included to)) (filter_pairwise cmp total exact _ _ store.chains.entries (ascends cmp total exact store.chains.entries sorted)) t is

      by_from : (None ≡ Some t) ⊎ HasNumber cmp total exact (busy_of x s) (part (Included from) (Included to)) t → IsLowestIn cmp x s store from to t
      by_from (inl before) = absurd (none-some t before)
      by_from (inr has) = by_within has (open_within (Included from) (Included to) (busy_of x s) t has.key has.here)
        where
          by_within : (h : HasNumber cmp total exact (busy_of x s) (part (Included from) (Included to)) t) → range_contains cmp (Included from) (Included to) h.key ≡ true → IsLowestIn cmp x s store from to t
          by_within h within = record {
            key = h.key;
            between = contains_span from to h.key within;
            here = open_in_part (Included from) (Included to) s h.key within ∙ h.here;
            lowest = λ q u between found. lowest.least q u (sym (open_in_part (Included from) (Included to) s q (span_contains from to q between)) ∙ found);
          }

  pub searched_in : (s : ℕ) (from to : K) (o : Option ℕ) → o ≡ lowest_of (busy_of x s) None (entries_between cmp (Included from) (Included to) store.chains.entries) → MatchOption o (IsFreeIn cmp x s store from to) (IsLowestIn cmp x s store from to)
  searched_in s from to None is = free_in s from to (sym is)
  searched_in s from to (Some t) is = lowest_in s from to t (sym is)

  -- the versions of each key between are a stack
  pub stacks_in : (lo hi : Bound K) → ((key : K) → IsStack x (standing x (versions_at cmp store key))) → Each (λ (e : K × Chain D). IsStack x (standing x (versions_of e.1.items))) (entries_between cmp lo hi store.chains.entries)
  stacks_in lo hi stacks = filter_each cmp total exact (λ (e : K × Chain D). IsStack x (standing x (versions_of e.1.items))) (λ (e : K × Chain D). range_contains cmp lo hi e.0) store.chains.entries (each_more (λ (e : K × Chain D). lookup (is_at (cmp e.0)) store.chains.entries ≡ Some e.1) (λ (e : K × Chain D). IsStack x (standing x (versions_of e.1.items))) (λ e found. subst (λ (o : Option (Chain D)). IsStack x (standing x (option_map_or (λ chain. versions_of chain.items) o []))) found (stacks e.0)) store.chains.entries (each_found cmp total exact store.chains.entries (ascends cmp total exact store.chains.entries sorted)))

  -- from a key to a lower one there is none
  pub no_span : (from to q : K) → is_gt (cmp from to) ≡ true → IsBetween cmp from to q → ⊥
  no_span from to q over between = false≢true (sym (upto total from q to between.low between.high) ∙ over)
