-- Searches over the entries of a map that stand between two keys, in order: what a test finds first or last, and what is
-- lowest over all.
use Rattle.std.proofs.Common.{ℕ, ◌≤◌, ◌<◌, ◌≡◌, ◌⊎◌, inl, inr, min, Bool, true, false, cond, List, [], ◌∷◌, ◌++◌, Option, Some, None, refl, ap, sym, subst, ◌∙◌, arith}
use Rattle.std.specs.Prelude.{if◌then◌else◌, filter}
use Rattle.std.specs.Cmp.{IsTotalOrder}
use Rattle.std.specs.List.{AllByRecursion}
use Rattle.std.specs.List.Sorted.{IsStrictlySortedBy}
use Rattle.std.specs.Map.{keys_of, lookup}
use Rattle.std.specs.Ordering.{is_eq}
use Rattle.std.specs.BTreeMap.{is_at}
use Rattle.std.specs.BTreeMap.Range.{IsLeBy}
use Rattle.std.specs.declared.cmp.Ordering.{Ordering}
use Rattle.std.specs.declared.cmp.Ordering.TheVariants.{Less}
use Rattle.std.proofs.lemmas.Bool.{false≢true, cases_lt}
use Rattle.std.proofs.lemmas.Cmp.{tied_itself}
use Rattle.std.proofs.lemmas.Map.Lookups.{CmpEqualImpliesEq}
use Rattle.std.proofs.lemmas.Map.Views.{tells_apart}
use Rattle.std.proofs.lemmas.Option.{none-some, same_Some}
use Rattle.lo_model.specs.Touch.{lower_of}
use Rattle.row_versions.specs.Stack.{Each, Pairwise}
use Rattle.row_versions.proofs.Going.{lowest_first}
use Rattle.row_versions.proofs.Stacking.{each_both}
use Rattle.row_versions.proofs.Storing.{key_itself}

-- the key of the first entry that passes a test
abbrev pub first_key : {K X : Type 0} → (X → Bool) → List (K × X) → Option K
first_key test [] = None
first_key test (e ∷ es) = if test e.1 then Some e.0 else first_key test es

-- that of the last one, or an earlier key
abbrev pub last_key : {K X : Type 0} → (X → Bool) → Option K → List (K × X) → Option K
last_key test old [] = old
last_key test old (e ∷ es) = last_key test (if test e.1 then Some e.0 else old) es

-- the lowest number that entries have, with an earlier one
abbrev pub lowest_of : {K X : Type 0} → (X → Option ℕ) → Option ℕ → List (K × X) → Option ℕ
lowest_of number old [] = old
lowest_of number old (e ∷ es) = lowest_of number (lower_of old (number e.1)) es

-- whether what a look-up finds passes a test
abbrev pub passes : {X : Type 0} → (X → Bool) → Option X → Bool
passes test None = false
passes test (Some v) = test v

abbrev pub number_in : {X : Type 0} → (X → Option ℕ) → Option X → Option ℕ
number_in number None = None
number_in number (Some v) = number v

abbrev pub IsBelow : {K X : Type 0} → (K → K → Ordering) → K × X → K × X → Type 0
IsBelow cmp e f = cmp e.0 f.0 ≡ Less

pub last_key-end : {K X : Type 0} (test : X → Bool) (old : Option K) (es : List (K × X)) (e : K × X) → last_key test old (es ++ e ∷ []) ≡ (if test e.1 then Some e.0 else last_key test old es)
last_key-end test old [] e = refl
last_key-end test old (f ∷ fs) e = last_key-end test (if test f.1 then Some f.0 else old) fs e

pub first_passes : {K X : Type 0} (test : X → Bool) (k : K) (v : X) (rest es : List (K × X)) → es ≡ (k, v) ∷ rest → test v ≡ true → first_key test es ≡ Some k
first_passes test k v rest es is passed = ap (first_key test) is ∙ rw passed refl

pub last_passes : {K X : Type 0} (test : X → Bool) (k : K) (v : X) (rest es : List (K × X)) → es ≡ rest ++ (k, v) ∷ [] → test v ≡ true → last_key test None es ≡ Some k
last_passes test k v rest es is passed = ap (last_key test None) is ∙ (last_key-end test None rest (k, v) ∙ rw passed refl)

pub last_fails : {K X : Type 0} (test : X → Bool) (k : K) (v : X) (rest es : List (K × X)) → es ≡ rest ++ (k, v) ∷ [] → test v ≡ false → last_key test None rest ≡ last_key test None es
last_fails test k v rest es is failed = sym (ap (last_key test None) is ∙ (last_key-end test None rest (k, v) ∙ rw failed refl))

pub lowest_more : {K X : Type 0} (number : X → Option ℕ) (old new n : Option ℕ) (k : K) (v : X) (rest es : List (K × X)) → es ≡ (k, v) ∷ rest → new ≡ lower_of old n → n ≡ number v → lowest_of number new rest ≡ lowest_of number old es
lowest_more number old new n k v rest es is lower here = ap (λ (o : Option ℕ). lowest_of number o rest) (lower ∙ ap (lower_of old) here) ∙ sym (ap (lowest_of number old) is)

lower_left : (a b : Option ℕ) (t u : ℕ) → ((n : ℕ) → lower_of a b ≡ Some n → t ≤ n) → a ≡ Some u → t ≤ u
lower_left None b t u least is = absurd (none-some u is)
lower_left (Some a) None t u least is = least u is
lower_left (Some a) (Some b) t u least is = let most : t ≤ min a b = least (min a b) refl in let same : a ≡ u = same_Some _ _ is in omega (arith, most, same)

lower_right : (a b : Option ℕ) (t u : ℕ) → ((n : ℕ) → lower_of a b ≡ Some n → t ≤ n) → b ≡ Some u → t ≤ u
lower_right a None t u least is = absurd (none-some u is)
lower_right None (Some b) t u least is = least u is
lower_right (Some a) (Some b) t u least is = let most : t ≤ min a b = least (min a b) refl in let same : b ≡ u = same_Some _ _ is in omega (arith, most, same)

lower_from : (a b : Option ℕ) (t : ℕ) → lower_of a b ≡ Some t → (a ≡ Some t) ⊎ (b ≡ Some t)
lower_from None b t is = inr is
lower_from (Some a) None t is = inl is
lower_from (Some a) (Some b) t is = by_less (cases_lt a b)
  where
    by_less : (a < b) ⊎ (b ≤ a) → (Some a ≡ Some t) ⊎ (Some b ≡ Some t)
    by_less (inl less) = let same : min a b ≡ t = same_Some _ _ is in let equal : a ≡ t = omega (arith, same, less) in inl (ap (λ (n : ℕ). Some n) equal)
    by_less (inr more) = let same : min a b ≡ t = same_Some _ _ is in let equal : b ≡ t = omega (arith, same, more) in inr (ap (λ (n : ℕ). Some n) equal)

module _ {K : Type 0} (cmp : K → K → Ordering) (total : IsTotalOrder cmp) where
  -- of two keys in order the second is not at the first
  above_apart : (a b : K) → cmp a b ≡ Less → is_at (cmp b) a ≡ false
  above_apart a b less = ap is_eq (total.antisymm b a) ∙ rw less refl

  itself_below : (a : K) → IsLeBy cmp a a
  itself_below a = rw (tied_itself total a) refl

  less_below : (a b : K) → cmp a b ≡ Less → IsLeBy cmp a b
  less_below a b less = rw less refl

module _ {K X : Type 0} (cmp : K → K → Ordering) (total : IsTotalOrder cmp) (exact : CmpEqualImpliesEq cmp) where
  below_each : (e : K × X) (es : List (K × X)) → AllByRecursion (λ k. cmp e.0 k ≡ Less) (keys_of es) → Each (IsBelow cmp e) es
  below_each e [] h = tt
  below_each e (f ∷ fs) h = (h.0, below_each e fs h.1)

  pub ascends : (es : List (K × X)) → IsStrictlySortedBy cmp (keys_of es) → Pairwise (IsBelow cmp) es
  unfolding IsStrictlySortedBy
  ascends [] h = tt
  ascends (e ∷ es) h = (below_each e es h.0, ascends es h.1)

  -- the part between two keys

  pub filter_each : (P : K × X → Type 0) (p : K × X → Bool) (es : List (K × X)) → Each P es → Each P (filter p es)
  filter_each P p [] h = tt
  filter_each P p (e ∷ es) h = by_test (p e) (filter_each P p es h.1)
    where
      by_test : (b : Bool) → Each P (filter p es) → Each P (cond b (e ∷ filter p es) (filter p es))
      by_test true rest = (h.0, rest)
      by_test false rest = rest

  pub filter_pairwise : (R : K × X → K × X → Type 0) (p : K × X → Bool) (es : List (K × X)) → Pairwise R es → Pairwise R (filter p es)
  filter_pairwise R p [] h = tt
  filter_pairwise R p (e ∷ es) h = by_test (p e) (filter_pairwise R p es h.1)
    where
      by_test : (b : Bool) → Pairwise R (filter p es) → Pairwise R (cond b (e ∷ filter p es) (filter p es))
      by_test true rest = (filter_each (R e) p es h.0, rest)
      by_test false rest = rest

  pub filter_passes : (p : K × X → Bool) (es : List (K × X)) → Each (λ (e : K × X). p e ≡ true) (filter p es)
  filter_passes p [] = tt
  filter_passes p (e ∷ es) = by_test (p e) refl (filter_passes p es)
    where
      by_test : (b : Bool) → p e ≡ b → Each (λ (f : K × X). p f ≡ true) (filter p es) → Each (λ (f : K × X). p f ≡ true) (cond b (e ∷ filter p es) (filter p es))
      by_test true is rest = (is, rest)
      by_test false is rest = rest

  pub lookup_filtered : (p : K → Bool) (q : K) → p q ≡ true → (es : List (K × X)) → lookup (is_at (cmp q)) (filter (λ (e : K × X). p e.0) es) ≡ lookup (is_at (cmp q)) es
  lookup_filtered p q is [] = refl
  lookup_filtered p q is (e ∷ es) = by_at (is_at (cmp q) e.0) refl (lookup_filtered p q is es)
    where
      rest : List (K × X)
      rest = filter (λ (f : K × X). p f.0) es

      by_test : (c : Bool) → is_at (cmp q) e.0 ≡ false → lookup (is_at (cmp q)) rest ≡ lookup (is_at (cmp q)) es → lookup (is_at (cmp q)) (cond c (e ∷ rest) rest) ≡ lookup (is_at (cmp q)) es
      by_test true apart left = rw apart left
      by_test false apart left = left

      by_at : (b : Bool) → is_at (cmp q) e.0 ≡ b → lookup (is_at (cmp q)) rest ≡ lookup (is_at (cmp q)) es → lookup (is_at (cmp q)) (filter (λ (f : K × X). p f.0) (e ∷ es)) ≡ cond b (Some e.1) (lookup (is_at (cmp q)) es)
      by_at true at left = let here : p e.0 ≡ true = ap p (sym (tells_apart exact q e.0 at)) ∙ is in rw (here, at) refl
      by_at false at left = by_test (p e.0) at left

  -- a key that a look-up finds is one of the entries'
  pub lookup_each : (test : X → Bool) (P : K → Type 0) (q : K) (es : List (K × X)) → Each (λ (e : K × X). P e.0) es → passes test (lookup (is_at (cmp q)) es) ≡ true → P q
  lookup_each test P q [] h found = absurd (false≢true found)
  lookup_each test P q (e ∷ es) h found = by_at (is_at (cmp q) e.0) refl found (lookup_each test P q es h.1)
    where
      by_at : (b : Bool) → is_at (cmp q) e.0 ≡ b → passes test (cond b (Some e.1) (lookup (is_at (cmp q)) es)) ≡ true → (passes test (lookup (is_at (cmp q)) es) ≡ true → P q) → P q
      by_at true at here later = subst P (sym (tells_apart exact q e.0 at)) h.0
      by_at false at here later = later here

  -- each entry is the one that a look-up of its key finds
  pub each_found : (es : List (K × X)) → Pairwise (IsBelow cmp) es → Each (λ (e : K × X). lookup (is_at (cmp e.0)) es ≡ Some e.1) es
  each_found [] order = tt
  each_found (e ∷ es) order = (rw (key_itself cmp total exact e.0) refl, each_both (IsBelow cmp e) (λ (f : K × X). lookup (is_at (cmp f.0)) es ≡ Some f.1) (λ (f : K × X). lookup (is_at (cmp f.0)) (e ∷ es) ≡ Some f.1) (λ f below found. rw (above_apart cmp total e.0 f.0 below) found) es order.0 (each_found es order.1))

  -- what passes first

  pub first_none : (test : X → Bool) (es : List (K × X)) → first_key test es ≡ None → (q : K) → passes test (lookup (is_at (cmp q)) es) ≡ false
  first_none test [] none q = refl
  first_none test (e ∷ es) none q = by_test (test e.1) refl none (λ left. first_none test es left q)
    where
      by_at : (b : Bool) → test e.1 ≡ false → passes test (lookup (is_at (cmp q)) es) ≡ false → passes test (cond b (Some e.1) (lookup (is_at (cmp q)) es)) ≡ false
      by_at true fails left = fails
      by_at false fails left = left

      by_test : (b : Bool) → test e.1 ≡ b → (if b then Some e.0 else first_key test es) ≡ None → (first_key test es ≡ None → passes test (lookup (is_at (cmp q)) es) ≡ false) → passes test (lookup (is_at (cmp q)) (e ∷ es)) ≡ false
      by_test true is left later = absurd (none-some e.0 (sym left))
      by_test false is left later = by_at (is_at (cmp q) e.0) is (later left)

  pub record IsFirst (test : X → Bool) (es : List (K × X)) (k : K) : Type 0 where
    pub here : passes test (lookup (is_at (cmp k)) es) ≡ true
    pub least : (q : K) → passes test (lookup (is_at (cmp q)) es) ≡ true → IsLeBy cmp k q

  pub first_is : (test : X → Bool) (es : List (K × X)) → Pairwise (IsBelow cmp) es → (k : K) → first_key test es ≡ Some k → IsFirst test es k
  first_is test [] order k is = absurd (none-some k is)
  first_is test (e ∷ es) order k is = by_test (test e.1) refl is (first_is test es order.1 k)
    where
      first_here : test e.1 ≡ true → IsFirst test (e ∷ es) e.0
      first_here passed = record { here = rw (key_itself cmp total exact e.0) passed; least = λ q found. by_at q (is_at (cmp q) e.0) refl found }
        where
          by_at : (q : K) (b : Bool) → is_at (cmp q) e.0 ≡ b → passes test (cond b (Some e.1) (lookup (is_at (cmp q)) es)) ≡ true → IsLeBy cmp e.0 q
          by_at q true at found = subst (λ (n : K). IsLeBy cmp e.0 n) (sym (tells_apart exact q e.0 at)) (itself_below cmp total e.0)
          by_at q false at found = less_below cmp total e.0 q (lookup_each test (λ (n : K). cmp e.0 n ≡ Less) q es order.0 found)

      later : test e.1 ≡ false → IsFirst test es k → IsFirst test (e ∷ es) k
      later fails first = record { here = rw (above_apart cmp total e.0 k (lookup_each test (λ (n : K). cmp e.0 n ≡ Less) k es order.0 first.here)) first.here; least = λ q found. by_at q (is_at (cmp q) e.0) found }
        where
          by_at : (q : K) (b : Bool) → passes test (cond b (Some e.1) (lookup (is_at (cmp q)) es)) ≡ true → IsLeBy cmp k q
          by_at q true found = absurd (false≢true (sym fails ∙ found))
          by_at q false found = first.least q found

      by_test : (b : Bool) → test e.1 ≡ b → (if b then Some e.0 else first_key test es) ≡ Some k → (first_key test es ≡ Some k → IsFirst test es k) → IsFirst test (e ∷ es) k
      by_test true passed at left = subst (λ (n : K). IsFirst test (e ∷ es) n) (same_Some _ _ at) (first_here passed)
      by_test false fails at left = later fails (left at)

  -- what passes last

  pub last_none : (test : X → Bool) (old : Option K) (es : List (K × X)) → last_key test old es ≡ None → (old ≡ None) × ((q : K) → passes test (lookup (is_at (cmp q)) es) ≡ false)
  last_none test old [] none = (none, λ q. refl)
  last_none test old (e ∷ es) none = by_test (test e.1) refl (last_none test (if test e.1 then Some e.0 else old) es none)
    where
      by_at : (b : Bool) (q : K) → test e.1 ≡ false → passes test (lookup (is_at (cmp q)) es) ≡ false → passes test (cond b (Some e.1) (lookup (is_at (cmp q)) es)) ≡ false
      by_at true q fails rest = fails
      by_at false q fails rest = rest

      by_test : (b : Bool) → test e.1 ≡ b → ((if b then Some e.0 else old) ≡ None) × ((q : K) → passes test (lookup (is_at (cmp q)) es) ≡ false) → (old ≡ None) × ((q : K) → passes test (lookup (is_at (cmp q)) (e ∷ es)) ≡ false)
      by_test true passed left = absurd (none-some e.0 (sym left.0))
      by_test false fails left = (left.0, λ q. by_at (is_at (cmp q) e.0) q fails (left.1 q))

  pub record IsLast (test : X → Bool) (es : List (K × X)) (k : K) : Type 0 where
    pub here : passes test (lookup (is_at (cmp k)) es) ≡ true
    pub greatest : (q : K) → passes test (lookup (is_at (cmp q)) es) ≡ true → IsLeBy cmp q k

  pub last_is : (test : X → Bool) (old : Option K) (es : List (K × X)) → Pairwise (IsBelow cmp) es → (k : K) → last_key test old es ≡ Some k → ((old ≡ Some k) × ((q : K) → passes test (lookup (is_at (cmp q)) es) ≡ false)) ⊎ IsLast test es k
  last_is test old [] order k is = inl (is, λ q. refl)
  last_is test old (e ∷ es) order k is = by_test (test e.1) refl (last_is test (if test e.1 then Some e.0 else old) es order.1 k is)
    where
      Nothing : Type 0
      Nothing = (q : K) → passes test (lookup (is_at (cmp q)) es) ≡ false

      later : IsLast test es k → IsLast test (e ∷ es) k
      later last = record { here = rw (above_apart cmp total e.0 k under) last.here; greatest = λ q found. by_at q (is_at (cmp q) e.0) refl found }
        where
          under : cmp e.0 k ≡ Less
          under = lookup_each test (λ (n : K). cmp e.0 n ≡ Less) k es order.0 last.here

          by_at : (q : K) (b : Bool) → is_at (cmp q) e.0 ≡ b → passes test (cond b (Some e.1) (lookup (is_at (cmp q)) es)) ≡ true → IsLeBy cmp q k
          by_at q true at found = subst (λ (n : K). IsLeBy cmp n k) (sym (tells_apart exact q e.0 at)) (less_below cmp total e.0 k under)
          by_at q false at found = last.greatest q found

      last_here : test e.1 ≡ true → ((q : K) → passes test (lookup (is_at (cmp q)) es) ≡ false) → IsLast test (e ∷ es) e.0
      last_here passed none = record { here = rw (key_itself cmp total exact e.0) passed; greatest = λ q found. by_at q (is_at (cmp q) e.0) refl found }
        where
          by_at : (q : K) (b : Bool) → is_at (cmp q) e.0 ≡ b → passes test (cond b (Some e.1) (lookup (is_at (cmp q)) es)) ≡ true → IsLeBy cmp q e.0
          by_at q true at found = subst (λ (n : K). IsLeBy cmp n e.0) (sym (tells_apart exact q e.0 at)) (itself_below cmp total e.0)
          by_at q false at found = absurd (false≢true (sym (none q) ∙ found))

      none_here : (q : K) (b : Bool) → test e.1 ≡ false → passes test (lookup (is_at (cmp q)) es) ≡ false → passes test (cond b (Some e.1) (lookup (is_at (cmp q)) es)) ≡ false
      none_here q true fails rest = fails
      none_here q false fails rest = rest

      by_test : (b : Bool) → test e.1 ≡ b → (((if b then Some e.0 else old) ≡ Some k) × ((q : K) → passes test (lookup (is_at (cmp q)) es) ≡ false)) ⊎ IsLast test es k → ((old ≡ Some k) × ((q : K) → passes test (lookup (is_at (cmp q)) (e ∷ es)) ≡ false)) ⊎ IsLast test (e ∷ es) k
      by_test b is (inr last) = inr (later last)
      by_test true passed (inl left) = inr (subst (λ (n : K). IsLast test (e ∷ es) n) (same_Some _ _ left.0) (last_here passed left.1))
      by_test false fails (inl left) = inl (left.0, λ q. none_here q (is_at (cmp q) e.0) fails (left.1 q))

  -- what is lowest

  pub numbers_none : (number : X → Option ℕ) (old : Option ℕ) (es : List (K × X)) → lowest_of number old es ≡ None → (old ≡ None) × ((q : K) → number_in number (lookup (is_at (cmp q)) es) ≡ None)
  numbers_none number old [] none = (none, λ q. refl)
  numbers_none number old (e ∷ es) none =
      let left : (lower_of old (number e.1) ≡ None) × ((q : K) → number_in number (lookup (is_at (cmp q)) es) ≡ None) = numbers_none number (lower_of old (number e.1)) es none in
      let both : (old ≡ None) × (number e.1 ≡ None) = lowest_first old (number e.1) left.0 in
      (both.0, λ q. by_at q (is_at (cmp q) e.0) both.1 (left.1 q))
    where
      by_at : (q : K) (b : Bool) → number e.1 ≡ None → number_in number (lookup (is_at (cmp q)) es) ≡ None → number_in number (cond b (Some e.1) (lookup (is_at (cmp q)) es)) ≡ None
      by_at q true none rest = none
      by_at q false none rest = rest

  pub record HasNumber (number : X → Option ℕ) (es : List (K × X)) (t : ℕ) : Type 0 where
    pub key : K
    pub here : number_in number (lookup (is_at (cmp key)) es) ≡ Some t

  pub record IsLowestOf (number : X → Option ℕ) (old : Option ℕ) (es : List (K × X)) (t : ℕ) : Type 0 where
    pub from : (old ≡ Some t) ⊎ HasNumber number es t
    pub before : (u : ℕ) → old ≡ Some u → t ≤ u
    pub least : (q : K) (u : ℕ) → number_in number (lookup (is_at (cmp q)) es) ≡ Some u → t ≤ u

  pub number_each : (number : X → Option ℕ) (P : K → Type 0) (q : K) (t : ℕ) (es : List (K × X)) → Each (λ (e : K × X). P e.0) es → number_in number (lookup (is_at (cmp q)) es) ≡ Some t → P q
  number_each number P q t [] h found = absurd (none-some t found)
  number_each number P q t (e ∷ es) h found = by_at (is_at (cmp q) e.0) refl found (number_each number P q t es h.1)
    where
      by_at : (b : Bool) → is_at (cmp q) e.0 ≡ b → number_in number (cond b (Some e.1) (lookup (is_at (cmp q)) es)) ≡ Some t → (number_in number (lookup (is_at (cmp q)) es) ≡ Some t → P q) → P q
      by_at true at here later = subst P (sym (tells_apart exact q e.0 at)) h.0
      by_at false at here later = later here

  pub numbers_some : (number : X → Option ℕ) (old : Option ℕ) (es : List (K × X)) → Pairwise (IsBelow cmp) es → (t : ℕ) → lowest_of number old es ≡ Some t → IsLowestOf number old es t
  numbers_some number old [] order t is = record { from = inl is; before = λ u at. (let same : t ≡ u = same_Some _ _ (sym is ∙ at) in omega (arith, same)); least = λ q u at. absurd (none-some u at) }
  numbers_some number old (e ∷ es) order t is = step (numbers_some number (lower_of old (number e.1)) es order.1 t is)
    where
      step : IsLowestOf number (lower_of old (number e.1)) es t → IsLowestOf number old (e ∷ es) t
      step rest = record { from = by_from rest.from; before = λ u at. lower_left old (number e.1) t u rest.before at; least = λ q u at. by_at q u (is_at (cmp q) e.0) at }
        where
          by_at : (q : K) (u : ℕ) (b : Bool) → number_in number (cond b (Some e.1) (lookup (is_at (cmp q)) es)) ≡ Some u → t ≤ u
          by_at q u true at = lower_right old (number e.1) t u rest.before at
          by_at q u false at = rest.least q u at

          by_which : (old ≡ Some t) ⊎ (number e.1 ≡ Some t) → (old ≡ Some t) ⊎ HasNumber number (e ∷ es) t
          by_which (inl was) = inl was
          by_which (inr here) = inr (record { key = e.0; here = rw (key_itself cmp total exact e.0) here })

          by_from : (lower_of old (number e.1) ≡ Some t) ⊎ HasNumber number es t → (old ≡ Some t) ⊎ HasNumber number (e ∷ es) t
          by_from (inl both) = by_which (lower_from old (number e.1) t both)
          by_from (inr has) = inr (record { key = has.key; here = rw (above_apart cmp total e.0 has.key (number_each number (λ (n : K). cmp e.0 n ≡ Less) has.key t es order.0 has.here)) has.here })
