-- Which numbers the rest has, and how the groups are cut.
use Rattle.std.proofs.Common.{◌≡◌, ◌==◌, ℕ, zero, suc, ◌+◌, ◌<◌, ◌≤◌, Bool, true, false, not, cond, ◌||◌, ◌&&◌, inl, inr, List, [], ◌∷◌, length, take, drop, refl, ap, sym, ◌∙◌, arith, length-drop}
use Rattle.std.proofs.lemmas.Bool.Decides.{eqb_tells, nat_tests}
use Rattle.std.proofs.lemmas.List.{length-take}
use Rattle.std.proofs.Math.Seq.{drop-length}
use Rattle.std.proofs.lemmas.List.Kept.{IsStrictlyIncreasing-filter}
use Rattle.std.proofs.lemmas.List.Elements.{All-nil, All-cons}
use Rattle.std.specs.List.{filter, list_any, Contains, All, slice_index_or}
use Rattle.orphan_sweep.specs.Rest.{less, pieces, groups}
use Rattle.orphan_sweep.specs.Law.{IsTheRest, AreGroups}
use Rattle.orphan_sweep.proofs.Groups.{groups_opens, concat-groups, pieces-nil, suc-not_zero}
use Rattle.orphan_sweep.proofs.Histories.{not_true, right_or}

-- whether the number is on the list
abbrev pub has : ℕ → List ℕ → Bool
has o xs = list_any (λ f. f == o) xs

pub has-from : (xs : List ℕ) (o : ℕ) → Contains xs o → has o xs ≡ true
has-from [] o (k, inside, e) = absurd (omega arith)
has-from (x ∷ xs) o (zero, inside, e) =
    let h : (x == o) ≡ true = grind (arith, nat_tests) in ap (λ b. b || has o xs) h
has-from (x ∷ xs) o (suc k, inside, e) =
    right_or (x == o) (has o xs) (has-from xs o (k, omega arith, e))

contains_later : (x : ℕ) (xs : List ℕ) (o : ℕ) → Contains xs o → Contains (x ∷ xs) o
contains_later x xs o (k, inside, e) = (suc k, omega arith, e)

pub has-to : (xs : List ℕ) (o : ℕ) → has o xs ≡ true → Contains xs o
has-to [] o h = cc
has-to (x ∷ xs) o h =
    elim (eqb_tells x o) [
      | inl p ↦ (0, omega arith, p.1)
      | inr p ↦ contains_later x xs o (has-to xs o (ap (λ b. b || has o xs) (sym p.0) ∙ h))
    ]

and_false : (a : Bool) → (a && false) ≡ false
and_false true = refl
and_false false = refl

-- at another number the filter changes nothing
filter_other : (b : Bool) (o x : ℕ) (kept : List ℕ) → (x == o) ≡ false → has o (cond b (x ∷ kept) kept) ≡ has o kept
filter_other true o x kept e = ap (λ c. c || has o kept) e
filter_other false o x kept e = refl

-- at the number itself the test decides
filter_same : (b test : Bool) (o x : ℕ) (xs kept : List ℕ) → (x == o) ≡ true → test ≡ b → has o kept ≡ (has o xs && test) → has o (cond b (x ∷ kept) kept) ≡ test
filter_same true test o x xs kept e same others = ap (λ c. c || has o kept) e ∙ sym same
filter_same false test o x xs kept e same others =
    others ∙ ap (λ c. has o xs && c) same ∙ and_false (has o xs) ∙ sym same

has-filter : (p : ℕ → Bool) (o : ℕ) (xs : List ℕ) → has o (filter p xs) ≡ (has o xs && p o)
has-filter p o [] = refl
has-filter p o (x ∷ xs) =
    elim (eqb_tells x o) [
      | inl q ↦ filter_same (p x) (p o) o x xs (filter p xs) q.0 (ap p (sym q.1)) (has-filter p o xs) ∙ ap (λ c. (c || has o xs) && p o) (sym q.0)
      | inr q ↦ filter_other (p x) o x (filter p xs) q.0 ∙ has-filter p o xs ∙ ap (λ c. (c || has o xs) && p o) (sym q.0)
    ]

both_true : (a b : Bool) → (a && b) ≡ true → (a ≡ true) × (b ≡ true)
both_true true b h = (refl, h)
both_true false b h = cc

not_is_false : (b : Bool) → not b ≡ true → b ≡ false
not_is_false true h = cc
not_is_false false h = refl

pub is_the_rest : (list found : List ℕ) → IsTheRest list found (less list found)
is_the_rest list found = record {
  members = λ o.
      let is = has-filter (λ n. not (has n found)) o list in (
        λ in_rest.
            let both = both_true (has o list) (not (has o found)) (sym is ∙ has-from (less list found) o in_rest) in
            (has-to list o both.0, λ in_found. let yes = has-from found o in_found in let no = not_is_false (has o found) both.1 in cc),
        λ in_list. has-to (less list found) o (is ∙ ap (λ b. b && not (has o found)) (has-from list o in_list.0) ∙ ap not (not_true (has o found) (λ yes. in_list.1 (has-to found o yes)))),
      );
  ascending = IsStrictlyIncreasing-filter (λ n. not (has n found)) list;
}

some-pieces : (n size : ℕ) (xs : List ℕ) → 0 < size → All (λ g. 0 < length g) (pieces n size xs)
some-pieces zero size xs some = All-nil (λ g. 0 < length g)
some-pieces (suc n) size [] some = All-nil (λ g. 0 < length g)
some-pieces (suc n) size (x ∷ xs) some =
    All-cons (λ g. 0 < length g) (take size (x ∷ xs)) (pieces n size (drop size (x ∷ xs))) (omega (arith, length-take size (x ∷ xs))) (some-pieces n size (drop size (x ∷ xs)) some)

small-pieces : (n size : ℕ) (xs : List ℕ) → All (λ g. length g ≤ size) (pieces n size xs)
small-pieces zero size xs = All-nil (λ g. length g ≤ size)
small-pieces (suc n) size [] = All-nil (λ g. length g ≤ size)
small-pieces (suc n) size (x ∷ xs) =
    All-cons (λ g. length g ≤ size) (take size (x ∷ xs)) (pieces n size (drop size (x ∷ xs))) (omega (arith, length-take size (x ∷ xs))) (small-pieces n size (drop size (x ∷ xs)))

-- a piece after which another comes is whole
whole-piece : (n size : ℕ) (xs ys : List ℕ) → ys ≡ drop size xs → 0 < length (pieces n size ys) → length (take size xs) ≡ size
whole-piece n size xs [] is h = absurd (let e = ap length (pieces-nil n size) in omega arith)
whole-piece n size xs (y ∷ ys) is h =
    let e : suc (length ys) ≡ length (drop size xs) = ap length is in
    omega (arith, length-drop size xs, length-take size xs)

full-pieces : (n size : ℕ) (xs : List ℕ) (k : ℕ) (d : List ℕ) → k + 1 < length (pieces n size xs) → length (slice_index_or (pieces n size xs) k d) ≡ size
full-pieces zero size xs k d h = absurd (omega arith)
full-pieces (suc n) size [] k d h = absurd (omega arith)
full-pieces (suc n) size (x ∷ xs) zero d h =
    whole-piece n size (x ∷ xs) (drop size (x ∷ xs)) refl (omega arith)
full-pieces (suc n) size (x ∷ xs) (suc k) d h =
    full-pieces n size (drop size (x ∷ xs)) k d (omega arith)

pub limited : (l : ℕ) (numbers : List ℕ) → groups (suc l) numbers ≡ pieces (length numbers) (suc l) numbers
limited l numbers =
    ap (λ b. pieces (length numbers) (cond b (length numbers) (suc l)) numbers) (suc-not_zero l)

pub are_groups : (limit : ℕ) (numbers : List ℕ) → AreGroups limit numbers (groups limit numbers)
are_groups zero [] = record {
  whole = refl;
  some = All-nil (λ g. 0 < length g);
  small = λ h. All-nil (λ g. length g ≤ 0);
  full = λ h. absurd (omega arith);
  one = λ h. omega arith;
}
are_groups zero (x ∷ xs) = record {
  whole = concat-groups zero (x ∷ xs);
  some = some-pieces (suc (length xs)) (suc (length xs)) (x ∷ xs) (omega arith);
  small = λ h. absurd (omega arith);
  full = λ h. absurd (omega arith);
  one = λ h. let e = ap length (groups_opens zero x xs ∙ ap (λ ys. (x ∷ take (length xs) xs) ∷ groups zero ys) (drop-length xs)) in omega arith;
}
are_groups (suc l) numbers = record {
  whole = concat-groups (suc l) numbers;
  some = let e = limited l numbers in rw e (some-pieces (length numbers) (suc l) numbers (omega arith));
  small = λ h. let e = limited l numbers in rw e (small-pieces (length numbers) (suc l) numbers);
  full = λ h. let e = limited l numbers in rw e (full-pieces (length numbers) (suc l) numbers);
  one = λ h. absurd (omega arith);
}
