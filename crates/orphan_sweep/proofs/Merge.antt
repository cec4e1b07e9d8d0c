-- A walk along two ascending lists takes the one off the other.
use Rattle.std.proofs.Common.{◌≡◌, ◌==◌, ℕ, zero, suc, ◌+◌, ◌<◌, ◌≤◌, nat_lt, Bool, true, false, not, cond, ◌||◌, ◌⊎◌, inl, inr, List, [], ◌∷◌, ◌++◌, length, take, drop, set, get_or, refl, ap, sym, ◌∙◌, subst, arith, append_assoc, append-nil, length-set}
use Rattle.std.proofs.lemmas.Bool.Decides.{eqb_tells, leb_tells, nat_tests}
use Rattle.std.proofs.lemmas.List.{take_more_set, drop-set-lt, drop_more, drop_all}
use Rattle.std.proofs.lemmas.List.Elements.{filter_agree}
use Rattle.std.proofs.lemmas.List.Sorted.{Contains-permutation, IsPermutation-sym}
use Rattle.std.specs.List.Sorted.{IsPermutation, IsNonDecreasing, IsStrictlyIncreasing}
use Rattle.orphan_sweep.specs.Rest.{less}
use Rattle.orphan_sweep.specs.Place.{not_below, begins_with}
use Rattle.orphan_sweep.proofs.Rests.{has, has-from, has-to}

same_tests : (a b : Bool) → (a ≡ true → b ≡ true) → (b ≡ true → a ≡ true) → a ≡ b
same_tests true b there back = sym (there refl)
same_tests false true there back = back refl
same_tests false false there back = refl

-- the order of the numbers found does not matter
pub less-permutation : (list found sorted : List ℕ) → IsPermutation found sorted → less list sorted ≡ less list found
less-permutation list found sorted same =
    filter_agree (λ o. not (has o sorted)) (λ o. not (has o found)) (λ o. ap not (same_tests (has o sorted) (has o found)
    (λ h. has-from found o (Contains-permutation sorted found o (IsPermutation-sym found sorted same) (has-to sorted o h)))
    (λ h. has-from sorted o (Contains-permutation found sorted o same (has-to found o h))))) list

-- each number is at least this
abbrev pub IsFrom : ℕ → List ℕ → Type 0
IsFrom least [] = Unit {0}
IsFrom least (x ∷ xs) = (least ≤ x) × IsFrom least xs

from-lower : (a b : ℕ) (xs : List ℕ) → a ≤ b → IsFrom b xs → IsFrom a xs
from-lower a b [] h from = tt
from-lower a b (x ∷ xs) h from = (omega (arith, from.0), from-lower a b xs h from.1)

-- strictly ascending, by recursion
abbrev pub Ascends : List ℕ → Type 0
Ascends [] = Unit {0}
Ascends (x ∷ xs) = IsFrom (suc x) xs × Ascends xs

tail_rises : (x : ℕ) (xs : List ℕ) → IsStrictlyIncreasing (x ∷ xs) → IsStrictlyIncreasing xs
tail_rises x xs h =
    λ k inside. let e : suc k + 1 ≡ suc (k + 1) = omega arith in let step = h (suc k) (omega arith) in rw e at step

pub ascends_from : (xs : List ℕ) → IsStrictlyIncreasing xs → Ascends xs
ascends_from [] h = tt
ascends_from (x ∷ []) h = (tt, tt)
ascends_from (x ∷ y ∷ xs) h =
    let later = ascends_from (y ∷ xs) (tail_rises x (y ∷ xs) h) in
    let step : x < y = h 0 (omega arith) in
    ((omega arith, from-lower (suc x) (suc y) xs (omega arith) later.0), later)

pub ascends-drop : (n : ℕ) (xs : List ℕ) → Ascends xs → Ascends (drop n xs)
ascends-drop zero xs h = h
ascends-drop (suc n) [] h = tt
ascends-drop (suc n) (x ∷ xs) h = ascends-drop n xs h.1

-- in order, by recursion
abbrev pub InOrder : List ℕ → Type 0
InOrder [] = Unit {0}
InOrder (x ∷ xs) = IsFrom x xs × InOrder xs

tail_in_order : (x : ℕ) (xs : List ℕ) → IsNonDecreasing (x ∷ xs) → IsNonDecreasing xs
tail_in_order x xs h = λ i j d le inside. h (suc i) (suc j) d (omega arith) (omega arith)

pub in_order_from : (xs : List ℕ) → IsNonDecreasing xs → InOrder xs
in_order_from [] h = tt
in_order_from (x ∷ []) h = (tt, tt)
in_order_from (x ∷ y ∷ xs) h =
    let later = in_order_from (y ∷ xs) (tail_in_order x (y ∷ xs) h) in
    let step : x ≤ y = h 0 1 0 (omega arith) (omega arith) in
    ((step, from-lower x y xs step later.0), later)

pub in_order-not_below : (least : ℕ) (xs : List ℕ) → InOrder xs → InOrder (not_below least xs)
in_order-not_below least [] h = tt
in_order-not_below least (x ∷ xs) h =
    elim (nat_lt x least) as (λ b. InOrder (cond b (not_below least xs) (x ∷ xs))) [ true ↦ in_order-not_below least xs h.1 | false ↦ h ]

-- a number below all is not among them
has-none : (o least : ℕ) (xs : List ℕ) → o < least → IsFrom least xs → has o xs ≡ false
has-none o least [] h from = refl
has-none o least (x ∷ xs) h from =
    let e : (x == o) ≡ false = grind (arith, nat_tests, from.0) in
    ap (λ b. b || has o xs) e ∙ has-none o least xs h from.1

-- what the test tells
below_tells : (a b : ℕ) → ((nat_lt a b ≡ true) × (a < b)) ⊎ ((nat_lt a b ≡ false) × (b ≤ a))
below_tells a b =
    elim (leb_tells (suc a) b) [ inl p ↦ inl (p.0, p.1) | inr p ↦ inr (p.0, omega (arith, p.1)) ]

above : (o x : ℕ) → o ≤ x → (x ≡ o → ⊥) → o < x
above o x h other = omega arith

-- what is below the least is nothing to the numbers from it on
has-not_below : (o least : ℕ) (xs : List ℕ) → least ≤ o → has o (not_below least xs) ≡ has o xs
has-not_below o least [] h = refl
has-not_below o least (x ∷ xs) h =
    elim (below_tells x least) [
      | inl p ↦ let other : (x == o) ≡ false = grind (arith, nat_tests, p.1, h) in
          ap (λ b. has o (cond b (not_below least xs) (x ∷ xs))) p.0 ∙ has-not_below o least xs h ∙ ap (λ b. b || has o xs) (sym other)
      | inr p ↦ ap (λ b. has o (cond b (not_below least xs) (x ∷ xs))) p.0
    ]

-- so it is nothing to the list from there on
less-not_below : (least : ℕ) (list found : List ℕ) → IsFrom least list → less list (not_below least found) ≡ less list found
less-not_below least [] found h = refl
less-not_below least (o ∷ list) found h =
    ap (λ b. cond (not b) (o ∷ less list (not_below least found)) (less list (not_below least found))) (has-not_below o least found h.0) ∙ ap (λ ys. cond (not (has o found)) (o ∷ ys) ys) (less-not_below least list found h.1)

-- what is not below is at least the least
from-not_below : (least : ℕ) (xs : List ℕ) → InOrder xs → IsFrom least (not_below least xs)
from-not_below least [] h = tt
from-not_below least (x ∷ xs) h =
    let P : Bool → Type 0 = λ b. IsFrom least (cond b (not_below least xs) (x ∷ xs)) in
    elim (below_tells x least) [
      | inl p ↦ subst P (sym p.0) (from-not_below least xs h.1)
      | inr p ↦ subst P (sym p.0) (p.1, from-lower least x xs p.1 h.0)
    ]

-- whether the number is among these shows in the first of them
has-first : (o : ℕ) (xs : List ℕ) → IsFrom o xs → InOrder xs → has o xs ≡ begins_with o xs
has-first o [] from h = refl
has-first o (x ∷ xs) from h =
    elim (eqb_tells x o) [
      | inl p ↦ ap (λ b. b || has o xs) p.0 ∙ sym p.0
      | inr p ↦ ap (λ b. b || has o xs) p.0 ∙ has-none o x xs (above o x from.0 p.1) h.0 ∙ sym p.0
    ]

cond_not : {A : Type 0} (b : Bool) (x y : A) → cond (not b) x y ≡ cond b y x
cond_not true x y = refl
cond_not false x y = refl

-- one step of the walk
pub less-step : (o : ℕ) (list found : List ℕ) → Ascends (o ∷ list) → InOrder found → less (o ∷ list) found ≡ cond (begins_with o (not_below o found)) (less list (not_below o found)) (o ∷ less list (not_below o found))
less-step o list found up order =
    let coming : List ℕ = not_below o found in
    sym (less-not_below o (o ∷ list) found (omega arith, from-lower o (suc o) list (omega arith) up.0)) ∙ cond_not (has o coming) (o ∷ less list coming) (less list coming) ∙ ap (λ b. cond b (less list coming) (o ∷ less list coming)) (has-first o coming (from-not_below o found order) (in_order-not_below o found order))

-- what holds in the walk, at a place of the list
pub record Walks (old list : List ℕ) (at kept : ℕ) (coming found : List ℕ) : Type 0 where
  pub behind : kept ≤ at
  pub long : length list ≡ length old
  pub ahead : drop at list ≡ drop at old
  pub sorted : InOrder coming
  pub so_far : take kept list ++ less (drop at old) coming ≡ less old found

-- the list at the place, and the step there
opened : (old list : List ℕ) (at kept o : ℕ) (coming found : List ℕ) → Walks old list at kept coming found → at < length list → o ≡ get_or list at o → drop at old ≡ o ∷ drop (at + 1) old
opened old list at kept o coming found w inside is =
    let here = drop_more list at o inside in
    let there = drop_more old at o (omega (arith, w.long)) in
    let same = w.ahead in
    let first : get_or list at o ≡ get_or old at o = cc in
    there ∙ ap (λ n. n ∷ drop (at + 1) old) (sym first ∙ sym is)

step_at : (old list : List ℕ) (at kept o : ℕ) (coming found : List ℕ) → IsStrictlyIncreasing old → Walks old list at kept coming found → at < length list → o ≡ get_or list at o → take kept list ++ cond (begins_with o (not_below o coming)) (less (drop (at + 1) old) (not_below o coming)) (o ∷ less (drop (at + 1) old) (not_below o coming)) ≡ less old found
step_at old list at kept o coming found up w inside is =
    let e = opened old list at kept o coming found w inside is in
    let rising : Ascends (o ∷ drop (at + 1) old) = subst Ascends e (ascends-drop at old (ascends_from old up)) in
    ap (λ xs. take kept list ++ xs) (sym (less-step o (drop (at + 1) old) coming rising w.sorted) ∙ ap (λ xs. less xs coming) (sym e)) ∙ w.so_far

later_same : (old list : List ℕ) (at : ℕ) → length list ≡ length old → at < length list → drop at list ≡ drop at old → drop (at + 1) list ≡ drop (at + 1) old
later_same old list at long inside same =
    let here = drop_more list at 0 inside in
    let there = drop_more old at 0 (omega arith) in
    cc

-- a number that was found is left out
pub walks-found : (old list : List ℕ) (at kept o : ℕ) (coming found : List ℕ) → IsStrictlyIncreasing old → Walks old list at kept coming found → at < length list → o ≡ get_or list at o → begins_with o (not_below o coming) ≡ true → Walks old list (at + 1) kept (not_below o coming) found
walks-found old list at kept o coming found up w inside is begins = record {
  behind = omega (arith, w.behind);
  long = w.long;
  ahead = later_same old list at w.long inside w.ahead;
  sorted = in_order-not_below o coming w.sorted;
  so_far = ap (λ b. take kept list ++ cond b (less (drop (at + 1) old) (not_below o coming)) (o ∷ less (drop (at + 1) old) (not_below o coming))) (sym begins) ∙ step_at old list at kept o coming found up w inside is;
}

-- another one is kept
pub walks-kept : (old list : List ℕ) (at kept o : ℕ) (coming found : List ℕ) → IsStrictlyIncreasing old → Walks old list at kept coming found → at < length list → o ≡ get_or list at o → begins_with o (not_below o coming) ≡ false → Walks old (set list kept o) (at + 1) (kept + 1) (not_below o coming) found
walks-kept old list at kept o coming found up w inside is begins =
    let left : List ℕ = less (drop (at + 1) old) (not_below o coming) in
    record {
      behind = omega (arith, w.behind);
      long = length-set list kept o ∙ w.long;
      ahead = drop-set-lt (at + 1) list kept o (omega (arith, w.behind)) ∙ later_same old list at w.long inside w.ahead;
      sorted = in_order-not_below o coming w.sorted;
      so_far = ap (λ xs. xs ++ left) (take_more_set list kept o (omega (arith, w.behind))) ∙ append_assoc (take kept list) (o ∷ []) left ∙ ap (λ b. take kept list ++ cond b left (o ∷ left)) (sym begins) ∙ step_at old list at kept o coming found up w inside is;
    }

pub walks-begin : (old sorted : List ℕ) → InOrder sorted → Walks old old 0 0 sorted sorted
walks-begin old sorted order = record { behind = omega arith; long = refl; ahead = refl; sorted = order; so_far = refl }

-- at the end of the list
pub walks-end : (old list : List ℕ) (at kept : ℕ) (coming sorted found : List ℕ) → Walks old list at kept coming sorted → length old ≤ at → IsPermutation found sorted → take kept list ≡ less old found
walks-end old list at kept coming sorted found w end same =
    sym (append-nil (take kept list)) ∙ ap (λ xs. take kept list ++ less xs coming) (sym (drop_all at old end)) ∙ w.so_far ∙ less-permutation old found sorted same
