-- Moving out the candidate that goes first, and choosing anew among the others, is the choice among all.
use Rattle.std.proofs.Common.{◌≡◌, ◌≢◌, ℕ, zero, suc, ◌+◌, ◌<◌, ◌≤◌, Bool, true, false, not, ◌||◌, ◌&&◌, cond, eqb, ltb, List, [], ◌∷◌, ◌++◌, length, Option, Some, None, ◌⊎◌, inl, inr, refl, sym, ap, ap₂, ◌∙◌, arith}
use Rattle.std.specs.Prelude.{option_to_list, count_by}
use Rattle.std.specs.Option.{option_map_or}
use Rattle.std.proofs.Math.ListN.{set}
use Rattle.std.proofs.Math.Bool.{or-false}
use Rattle.std.proofs.lemmas.List.{set-set}
use Rattle.std.proofs.lemmas.Option.{same_Some}
use Rattle.std.proofs.lemmas.Bool.{ltb-true, ltb-false, eqb-true, eqb-false, lt-ltb, le-ltb, and_right, or_parts, or_cases, and_parts, and_cases, cases_Bool, cases_lt}
use Rattle.std.proofs.lemmas.List.Sums.{sum_by-cons}
use Rattle.lo_base.specs.declared.column.Column.{Column}
use Rattle.lo_base.specs.declared.column.Storage.{Storage}
use Rattle.toast_plan.specs.Layout.{value_header}
use Rattle.toast_plan.specs.Choice.{Candidate, candidate_at, candidates_from, candidates, goes_before, place_in_order, is_among_first, with_moved_from, with_first, least, fits, moves_needed, after_round}
use Rattle.toast_plan.specs.Rounds.{first_of}

-- ---- the order

pub before_true : (a b : Candidate) → goes_before a b ≡ true → (b.bytes < a.bytes) ⊎ ((a.bytes ≡ b.bytes) × (a.place < b.place))
before_true a b e =
    elim (or_cases (ltb b.bytes a.bytes) (eqb a.bytes b.bytes && ltb a.place b.place) e) [
      | inl longer ↦ inl (ltb-true b.bytes a.bytes longer)
      | inr tie ↦ let both = and_parts (eqb a.bytes b.bytes) (ltb a.place b.place) tie in inr (eqb-true a.bytes b.bytes both.0, ltb-true a.place b.place both.1)
    ]

pub before_false : (a b : Candidate) → goes_before a b ≡ false → (a.bytes ≤ b.bytes) × (a.bytes ≡ b.bytes → b.place ≤ a.place)
before_false a b e =
    let parts = or_parts (ltb b.bytes a.bytes) (eqb a.bytes b.bytes && ltb a.place b.place) e in (
      ltb-false b.bytes a.bytes parts.0,
      λ same. elim (and_cases (eqb a.bytes b.bytes) (ltb a.place b.place) parts.1) [
        | inl other ↦ absurd (eqb-false a.bytes b.bytes other same)
        | inr late ↦ ltb-false a.place b.place late
      ],
    )

pub is_before : (a b : Candidate) → a.place ≢ b.place → goes_before b a ≡ false → goes_before a b ≡ true
is_before a b apart e =
    elim (cases_Bool (goes_before a b)) [
      | inl holds ↦ holds
      | inr misses ↦
          let p = before_false b a e in
          let q = before_false a b misses in
          let same : a.bytes ≡ b.bytes = omega (arith, p.0, q.0) in
          let later : b.place ≤ a.place = q.1 same in
          let earlier : a.place ≤ b.place = p.1 (sym same) in
          absurd (apart (omega arith))
    ]

pub irreflexive : (a : Candidate) → goes_before a a ≡ false
irreflexive a =
    elim (cases_Bool (goes_before a a)) [
      | inl holds ↦ elim (before_true a a holds) [ inl h ↦ absurd (omega arith) | inr h ↦ absurd (omega (arith, h.1)) ]
      | inr misses ↦ misses
    ]

pub before-before : (a b c : Candidate) → goes_before a b ≡ true → goes_before b c ≡ true → goes_before a c ≡ true
before-before a b c ab bc =
    elim (cases_Bool (goes_before a c)) [
      | inl holds ↦ holds
      | inr misses ↦
          let n = before_false a c misses in
          elim (before_true a b ab) [
            | inl x ↦ elim (before_true b c bc) [ inl y ↦ absurd (omega (arith, n.0)) | inr y ↦ absurd (omega (arith, n.0, y.0)) ]
            | inr x ↦ elim (before_true b c bc) [
              | inl y ↦ absurd (omega (arith, n.0, x.0))
              | inr y ↦ absurd (omega (arith, n.1 (x.0 ∙ y.0), x.1, y.1))
            ]
          ]
    ]

-- what does not go before b, which does not go before c, does not go before c
not_before-not_before : (a b c : Candidate) → goes_before a b ≡ false → goes_before b c ≡ false → goes_before a c ≡ false
not_before-not_before a b c ab bc =
    elim (cases_Bool (goes_before a c)) [
      | inr misses ↦ misses
      | inl holds ↦
          let p = before_false a b ab in
          let q = before_false b c bc in
          elim (before_true a c holds) [
            | inl x ↦ absurd (omega (arith, p.0, q.0))
            | inr x ↦
                let ab_same : a.bytes ≡ b.bytes = omega (arith, p.0, q.0, x.0) in
                let bc_same : b.bytes ≡ c.bytes = omega (arith, p.0, q.0, x.0) in
                absurd (omega (arith, p.1 ab_same, q.1 bc_same, x.1))
          ]
    ]

-- ---- the first of some candidates

abbrev pub IsIn : List Candidate → Candidate → Type 0
IsIn [] a = ⊥
IsIn (b ∷ all) a = (b ≡ a) ⊎ IsIn all a

pub first_is_in : (best : Option Candidate) (all : List Candidate) (a : Candidate) → first_of best all ≡ Some a → (best ≡ Some a) ⊎ IsIn all a
first_is_in best [] a e = inl e
first_is_in None (b ∷ all) a e =
    elim (first_is_in (Some b) all a e) [ inl h ↦ inr (inl cc) | inr h ↦ inr (inr h) ]
first_is_in (Some c) (b ∷ all) a e =
    elim (cases_Bool (goes_before b c)) [
      | inl holds ↦ elim (first_is_in (Some b) all a (rw holds at e)) [ inl h ↦ inr (inl cc) | inr h ↦ inr (inr h) ]
      | inr misses ↦ elim (first_is_in (Some c) all a (rw misses at e)) [ inl h ↦ inl h | inr h ↦ inr (inr h) ]
    ]

-- nothing goes before it
best_is_first : (best : Candidate) (all : List Candidate) (a : Candidate) → first_of (Some best) all ≡ Some a → goes_before best a ≡ false
best_is_first best [] a e = let same : best ≡ a = cc in rw same (irreflexive a)
best_is_first best (b ∷ all) a e =
    elim (cases_Bool (goes_before b best)) [
      | inl holds ↦
          let later : goes_before b a ≡ false = best_is_first b all a (rw holds at e) in
          elim (cases_Bool (goes_before best a)) [
            | inl before ↦ absurd (let both = before-before b best a holds before in cc)
            | inr h ↦ h
          ]
      | inr misses ↦ best_is_first best all a (rw misses at e)
    ]

pub first_is_first : (best : Option Candidate) (all : List Candidate) (a : Candidate) → first_of best all ≡ Some a → (b : Candidate) → IsIn all b → goes_before b a ≡ false
first_is_first best [] a e b here = absurd here
first_is_first None (c ∷ all) a e b here =
    elim here [
      | inl same ↦ rw (← same) (best_is_first c all a e)
      | inr later ↦ first_is_first (Some c) all a e b later
    ]
first_is_first (Some best) (c ∷ all) a e b here =
    elim (cases_Bool (goes_before c best)) [
      | inl holds ↦ elim here [
        | inl same ↦ rw (← same) (best_is_first c all a (rw holds at e))
        | inr later ↦ first_is_first (Some c) all a (rw holds at e) b later
      ]
      | inr misses ↦ elim here [
        | inl same ↦ rw (← same) (not_before-not_before c best a misses (best_is_first best all a (rw misses at e)))
        | inr later ↦ first_is_first (Some best) all a (rw misses at e) b later
      ]
    ]

-- ---- the candidates of a row

abbrev pub waiting : ℕ → ℕ → Candidate
waiting place bytes = record { place = place; bytes = bytes }

pub candidate_place : (moves : Storage → Bool) (k : ℕ) (c : Column) (n : Option ℕ) (o : Bool) (a : Candidate) → candidate_at moves k c n o ≡ Some a → a.place ≡ k
candidate_place moves k c None o a e = absurd cc
candidate_place moves k c (Some n) o a e =
    elim (cases_Bool (moves c.storage && ltb 24 (n + value_header c.storage n) && not o)) [
      | inl holds ↦
          let made : Some (waiting k n) ≡ Some a = rw holds at e in
          let same : waiting k n ≡ a = cc in
          ap (λ (x : Candidate). x.place) (sym same)
      | inr misses ↦ absurd (let made : None ≡ Some a = rw misses at e in cc)
    ]

outside_is_none : (moves : Storage → Bool) (k : ℕ) (c : Column) (n : Option ℕ) → candidate_at moves k c n true ≡ None
outside_is_none moves k c None = refl
outside_is_none moves k c (Some n) = rw (and_right (moves c.storage && ltb 24 (n + value_header c.storage n)) false refl) refl

pub head_or_rest : (h : Option Candidate) (all : List Candidate) (a : Candidate) → IsIn (option_to_list h ++ all) a → (h ≡ Some a) ⊎ IsIn all a
head_or_rest None all a here = inr here
head_or_rest (Some b) all a here = elim here [ inl same ↦ inl (ap (λ (x : Candidate). Some x) same) | inr later ↦ inr later ]

pub rest_is_in : (h : Option Candidate) (all : List Candidate) (a : Candidate) → IsIn all a → IsIn (option_to_list h ++ all) a
rest_is_in None all a here = here
rest_is_in (Some b) all a here = inr here

pub head_is_in : (h : Option Candidate) (all : List Candidate) (a : Candidate) → h ≡ Some a → IsIn (option_to_list h ++ all) a
head_is_in None all a e = absurd cc
head_is_in (Some b) all a e = inl cc

pub place_from : (moves : Storage → Bool) (k : ℕ) (cs : List Column) (ns : List (Option ℕ)) (os : List Bool) (a : Candidate) → IsIn (candidates_from moves k cs ns os) a → k ≤ a.place
place_from moves k [] ns os a here = absurd here
place_from moves k (c ∷ cs) [] os a here = absurd here
place_from moves k (c ∷ cs) (n ∷ ns) [] a here = absurd here
place_from moves k (c ∷ cs) (n ∷ ns) (o ∷ os) a here =
    elim (head_or_rest (candidate_at moves k c n o) (candidates_from moves (k + 1) cs ns os) a here) [
      | inl head ↦ omega (arith, candidate_place moves k c n o a head)
      | inr later ↦ omega (arith, place_from moves (k + 1) cs ns os a later)
    ]

pub count_cons : (p : Candidate → Bool) (a : Candidate) (all : List Candidate) → count_by p (a ∷ all) ≡ cond (p a) 1 0 + count_by p all
count_cons p a all = sum_by-cons (λ x. cond (p x) 1 0) a all

count_some : (p : Candidate → Bool) (h : Option Candidate) (all : List Candidate) (a : Candidate) → h ≡ Some a → count_by p (option_to_list h ++ all) ≡ cond (p a) 1 0 + count_by p all
count_some p None all a e = absurd cc
count_some p (Some b) all a e = let same : b ≡ a = cc in rw same (count_cons p a all)

count_again : (p : Candidate → Bool) (h : Option Candidate) (all others : List Candidate) (m : ℕ) → count_by p all ≡ m + count_by p others → count_by p (option_to_list h ++ all) ≡ m + count_by p (option_to_list h ++ others)
count_again p None all others m e = e
count_again p (Some b) all others m e = omega (arith, e, count_cons p b all, count_cons p b others)

-- what is counted without a candidate is less by that one
pub count_without : (p : Candidate → Bool) (moves : Storage → Bool) (k i : ℕ) (cs : List Column) (ns : List (Option ℕ)) (os : List Bool) (a : Candidate) → IsIn (candidates_from moves k cs ns os) a → a.place ≡ k + i
    → count_by p (candidates_from moves k cs ns os) ≡ cond (p a) 1 0 + count_by p (candidates_from moves k cs ns (set os i true))
count_without p moves k i [] ns os a here at = absurd here
count_without p moves k i (c ∷ cs) [] os a here at = absurd here
count_without p moves k i (c ∷ cs) (n ∷ ns) [] a here at = absurd here
count_without p moves k zero (c ∷ cs) (n ∷ ns) (o ∷ os) a here at =
    elim (head_or_rest (candidate_at moves k c n o) (candidates_from moves (k + 1) cs ns os) a here) [
      | inl head ↦ rw (outside_is_none moves k c n) (count_some p (candidate_at moves k c n o) (candidates_from moves (k + 1) cs ns os) a head)
      | inr later ↦ absurd (omega (arith, place_from moves (k + 1) cs ns os a later))
    ]
count_without p moves k (suc i) (c ∷ cs) (n ∷ ns) (o ∷ os) a here at =
    elim (head_or_rest (candidate_at moves k c n o) (candidates_from moves (k + 1) cs ns os) a here) [
      | inl head ↦ absurd (omega (arith, candidate_place moves k c n o a head))
      | inr later ↦
          let next : a.place ≡ (k + 1) + i = omega arith in
          count_again p (candidate_at moves k c n o) (candidates_from moves (k + 1) cs ns os) (candidates_from moves (k + 1) cs ns (set os i true)) (cond (p a) 1 0) (count_without p moves (k + 1) i cs ns os a later next)
    ]

length_count : (all : List Candidate) → length all ≡ count_by (λ _. true) all
length_count [] = refl
length_count (a ∷ all) = omega (arith, length_count all, count_cons (λ _. true) a all)

-- ---- moving out

pub same_or : (o p q : Bool) (ps qs : List Bool) → p ≡ q → ps ≡ qs → (o || p) ∷ ps ≡ (o || q) ∷ qs
same_or o p q ps qs e f = cc

at_most_none : (p : Candidate → Bool) (h : Option Candidate) → ((a : Candidate) → p a ≡ false) → option_map_or p h false ≡ false
at_most_none p None none = refl
at_most_none p (Some a) none = none a

pub moves_nothing : (p : Candidate → Bool) (moves : Storage → Bool) (k : ℕ) (cs : List Column) (ns : List (Option ℕ)) (os : List Bool) → ((a : Candidate) → p a ≡ false) → with_moved_from p moves k cs ns os ≡ os
moves_nothing p moves k [] ns os none = refl
moves_nothing p moves k (c ∷ cs) [] os none = refl
moves_nothing p moves k (c ∷ cs) (n ∷ ns) [] none = refl
moves_nothing p moves k (c ∷ cs) (n ∷ ns) (o ∷ os) none =
    let stays : option_map_or p (candidate_at moves k c n o) false ≡ false = at_most_none p (candidate_at moves k c n o) none in
    same_or o (option_map_or p (candidate_at moves k c n o) false) false (with_moved_from p moves (k + 1) cs ns os) os stays (moves_nothing p moves (k + 1) cs ns os none) ∙ ap (λ (b : Bool). b ∷ os) (or-false o)

pub same_head : (p q : Candidate → Bool) (h : Option Candidate) → ((b : Candidate) → h ≡ Some b → p b ≡ q b) → option_map_or p h false ≡ option_map_or q h false
same_head p q None same = refl
same_head p q (Some b) same = same b refl

pub moves_same : (p q : Candidate → Bool) (moves : Storage → Bool) (k : ℕ) (cs : List Column) (ns : List (Option ℕ)) (os : List Bool) → ((b : Candidate) → IsIn (candidates_from moves k cs ns os) b → p b ≡ q b) → with_moved_from p moves k cs ns os ≡ with_moved_from q moves k cs ns os
moves_same p q moves k [] ns os same = refl
moves_same p q moves k (c ∷ cs) [] os same = refl
moves_same p q moves k (c ∷ cs) (n ∷ ns) [] same = refl
moves_same p q moves k (c ∷ cs) (n ∷ ns) (o ∷ os) same =
    let h = candidate_at moves k c n o in
    let rest = candidates_from moves (k + 1) cs ns os in
    same_or o (option_map_or p h false) (option_map_or q h false) (with_moved_from p moves (k + 1) cs ns os) (with_moved_from q moves (k + 1) cs ns os)
    (same_head p q h (λ b e. same b (head_is_in h rest b e))) (moves_same p q moves (k + 1) cs ns os (λ b here. same b (rest_is_in h rest b here)))

candidate_inside : (moves : Storage → Bool) (k : ℕ) (c : Column) (n : Option ℕ) (o : Bool) (a : Candidate) → candidate_at moves k c n o ≡ Some a → o ≡ false
candidate_inside moves k c n true a e = absurd (let none : None ≡ Some a = sym (outside_is_none moves k c n) ∙ e in cc)
candidate_inside moves k c n false a e = refl

passes_head : (p : Candidate → Bool) (h : Option Candidate) (a : Candidate) → h ≡ Some a → option_map_or p h false ≡ p a
passes_head p None a e = absurd (let none : None ≡ Some a = e in cc)
passes_head p (Some b) a e = ap p (same_Some b a e)

-- tests that differ at one candidate alone leave marks that differ there alone
pub one_apart : (p q : Candidate → Bool) (moves : Storage → Bool) (k i : ℕ) (cs : List Column) (ns : List (Option ℕ)) (os : List Bool) (a : Candidate) → IsIn (candidates_from moves k cs ns os) a → a.place ≡ k + i
    → ((b : Candidate) → IsIn (candidates_from moves k cs ns os) b → b.place ≢ a.place → p b ≡ q b) → with_moved_from p moves k cs ns os ≡ set (with_moved_from q moves k cs ns os) i (p a)
one_apart p q moves k i [] ns os a here at same = absurd here
one_apart p q moves k i (c ∷ cs) [] os a here at same = absurd here
one_apart p q moves k i (c ∷ cs) (n ∷ ns) [] a here at same = absurd here
one_apart p q moves k zero (c ∷ cs) (n ∷ ns) (o ∷ os) a here at same =
    let h = candidate_at moves k c n o in
    let rest = candidates_from moves (k + 1) cs ns os in
    elim (head_or_rest h rest a here) [
      | inl head ↦
          let first : (o || option_map_or p h false) ≡ p a = ap₂ (λ x y. x || y) (candidate_inside moves k c n o a head) (passes_head p h a head) in
          let others : with_moved_from p moves (k + 1) cs ns os ≡ with_moved_from q moves (k + 1) cs ns os = moves_same p q moves (k + 1) cs ns os (λ b later. same b (rest_is_in h rest b later) (λ e. omega (arith, e, place_from moves (k + 1) cs ns os b later))) in
          ap₂ (λ b bs. b ∷ bs) first others
      | inr later ↦ absurd (omega (arith, place_from moves (k + 1) cs ns os a later))
    ]
one_apart p q moves k (suc i) (c ∷ cs) (n ∷ ns) (o ∷ os) a here at same =
    let h = candidate_at moves k c n o in
    let rest = candidates_from moves (k + 1) cs ns os in
    elim (head_or_rest h rest a here) [
      | inl head ↦ absurd (omega (arith, candidate_place moves k c n o a head))
      | inr later ↦
          let next : a.place ≡ (k + 1) + i = omega arith in
          same_or o (option_map_or p h false) (option_map_or q h false) (with_moved_from p moves (k + 1) cs ns os) (set (with_moved_from q moves (k + 1) cs ns os) i (p a))
          (same_head p q h (λ b e. same b (head_is_in h rest b e) (λ f. omega (arith, f, candidate_place moves k c n o b e))))
          (one_apart p q moves (k + 1) i cs ns os a later next (λ b there. same b (rest_is_in h rest b there)))
    ]

-- a candidate outside beforehand is one that passes the test
moved_before : (p : Candidate → Bool) (moves : Storage → Bool) (k i : ℕ) (cs : List Column) (ns : List (Option ℕ)) (os : List Bool) → with_moved_from p moves k cs ns (set os i true) ≡ set (with_moved_from p moves k cs ns os) i true
moved_before p moves k i [] ns os = refl
moved_before p moves k i (c ∷ cs) [] os = refl
moved_before p moves k i (c ∷ cs) (n ∷ ns) [] = refl
moved_before p moves k zero (c ∷ cs) (n ∷ ns) (o ∷ os) = refl
moved_before p moves k (suc i) (c ∷ cs) (n ∷ ns) (o ∷ os) = ap (λ bs. (o || option_map_or p (candidate_at moves k c n o) false) ∷ bs) (moved_before p moves (k + 1) i cs ns os)

-- a candidate that moved out at once, and the others by a test that agrees on them
pub moves_others : (p q : Candidate → Bool) (moves : Storage → Bool) (k i : ℕ) (cs : List Column) (ns : List (Option ℕ)) (os : List Bool) (a : Candidate) → IsIn (candidates_from moves k cs ns os) a → a.place ≡ k + i → q a ≡ true
    → ((b : Candidate) → IsIn (candidates_from moves k cs ns os) b → b.place ≢ a.place → p b ≡ q b) → with_moved_from p moves k cs ns (set os i true) ≡ with_moved_from q moves k cs ns os
moves_others p q moves k i cs ns os a here at passes same =
    let marks = with_moved_from q moves k cs ns os in
    moved_before p moves k i cs ns os
    ∙ ap (λ bs. set bs i true) (one_apart p q moves k i cs ns os a here at same)
    ∙ set-set marks i (p a) true
    ∙ ap (set marks i) (sym passes)
    ∙ sym (one_apart q q moves k i cs ns os a here at (λ b there apart. refl))

-- ---- the least number

pub least_zero : (test : ℕ → Bool) (limit : ℕ) → test 0 ≡ true → least test limit ≡ 0
least_zero test zero e = refl
least_zero test (suc limit) e = rw e refl

pub least_same : (p q : ℕ → Bool) (limit : ℕ) → ((n : ℕ) → p n ≡ q n) → least p limit ≡ least q limit
least_same p q zero same = refl
least_same p q (suc limit) same =
    rw (same 0, least_same (λ n. p (n + 1)) (λ n. q (n + 1)) limit (λ n. same (n + 1))) refl

pub least_suc : (test : ℕ → Bool) (limit : ℕ) → test 0 ≡ false → least test (suc limit) ≡ suc (least (λ n. test (n + 1)) limit)
least_suc test limit e = rw e refl

-- ---- rounds

with_none : (moves : Storage → Bool) (cs : List Column) (ns : List (Option ℕ)) (os : List Bool) → with_first moves 0 cs ns os ≡ os
with_none moves cs ns os = moves_nothing (is_among_first 0 (candidates moves cs ns os)) moves 0 cs ns os (λ a. le-ltb (place_in_order (candidates moves cs ns os) a) 0 (omega arith))

first_fits : (moves : Storage → Bool) (target : ℕ) (cs : List Column) (ns : List (Option ℕ)) (os : List Bool) (b : Bool) → fits target cs ns os ≡ b → fits target cs ns (with_first moves 0 cs ns os) ≡ b
first_fits moves target cs ns os b e = ap (fits target cs ns) (with_none moves cs ns os) ∙ e

-- where the data fit, nothing moves
pub round_done : (moves : Storage → Bool) (target : ℕ) (cs : List Column) (ns : List (Option ℕ)) (os : List Bool) → fits target cs ns os ≡ true → after_round moves target cs ns os ≡ os
round_done moves target cs ns os e =
    let none : moves_needed moves target cs ns os ≡ 0 = least_zero (λ count. fits target cs ns (with_first moves count cs ns os)) (length (candidates moves cs ns os)) (first_fits moves target cs ns os true e) in
    ap (λ (count : ℕ). with_first moves count cs ns os) none ∙ with_none moves cs ns os

-- where there is no candidate, nothing moves
pub round_over : (moves : Storage → Bool) (target : ℕ) (cs : List Column) (ns : List (Option ℕ)) (os : List Bool) → candidates moves cs ns os ≡ [] → after_round moves target cs ns os ≡ os
round_over moves target cs ns os e =
    let none : moves_needed moves target cs ns os ≡ 0 = ap (λ (all : List Candidate). least (λ count. fits target cs ns (with_first moves count cs ns os)) (length all)) e in
    ap (λ (count : ℕ). with_first moves count cs ns os) none ∙ with_none moves cs ns os

first_is_there : (all : List Candidate) (a : Candidate) → first_of None all ≡ Some a → IsIn all a
first_is_there all a e = elim (first_is_in None all a e) [ inl h ↦ absurd cc | inr h ↦ h ]

-- the candidates become fewer by one
pub one_less : (moves : Storage → Bool) (cs : List Column) (ns : List (Option ℕ)) (os : List Bool) (a : Candidate) → first_of None (candidates moves cs ns os) ≡ Some a
    → length (candidates moves cs ns os) ≡ suc (length (candidates moves cs ns (set os a.place true)))
one_less moves cs ns os a e =
    let here : IsIn (candidates moves cs ns os) a = first_is_there (candidates moves cs ns os) a e in
    let counted = count_without (λ _. true) moves 0 a.place cs ns os a here (omega arith) in
    omega (arith, counted, length_count (candidates moves cs ns os), length_count (candidates moves cs ns (set os a.place true)))

all_miss : (p : Candidate → Bool) (all : List Candidate) → ((b : Candidate) → IsIn all b → p b ≡ false) → count_by p all ≡ 0
all_miss p [] miss = refl
all_miss p (b ∷ all) miss = let head : cond {A = ℕ} (p b) 1 0 ≡ 0 = rw (miss b (inl refl)) refl in omega (arith, count_cons p b all, head, all_miss p all (λ c here. miss c (inr here)))

one_further : (m n count : ℕ) → n ≡ 1 + m → ltb m count ≡ ltb n (count + 1)
one_further m n count e =
    elim (cases_lt m count) [
      | inl lt ↦ lt-ltb m count lt ∙ sym (lt-ltb n (count + 1) (omega arith))
      | inr le ↦ le-ltb m count le ∙ sym (le-ltb n (count + 1) (omega arith))
    ]

-- with the first candidate outside, each other one stands one place further in front
with_one_more : (moves : Storage → Bool) (count : ℕ) (cs : List Column) (ns : List (Option ℕ)) (os : List Bool) (a : Candidate) → first_of None (candidates moves cs ns os) ≡ Some a
    → with_first moves count cs ns (set os a.place true) ≡ with_first moves (count + 1) cs ns os
with_one_more moves count cs ns os a e =
    let all = candidates moves cs ns os in
    let others = candidates moves cs ns (set os a.place true) in
    let here : IsIn all a = first_is_there all a e in
    let at : a.place ≡ 0 + a.place = omega arith in
    let first : (b : Candidate) → IsIn all b → goes_before b a ≡ false = first_is_first None all a e in
    let moved : (b : Candidate) → place_in_order all b ≡ cond (goes_before a b) 1 0 + place_in_order others b = λ b. count_without (λ x. goes_before x b) moves 0 a.place cs ns os a here at in
    let own : place_in_order all a ≡ 0 = all_miss (λ x. goes_before x a) all first in
    moves_others (is_among_first count others) (is_among_first (count + 1) all) moves 0 a.place cs ns os a here at
    (lt-ltb (place_in_order all a) (count + 1) (omega (arith, own)))
    (λ b there apart.
    let before : goes_before a b ≡ true = is_before a b (λ same. apart (sym same)) (first b there) in
    let further : place_in_order all b ≡ 1 + place_in_order others b = rw before at (moved b) in
    one_further (place_in_order others b) (place_in_order all b) count further)

-- where they do not fit, the round goes on without the first candidate
pub round_goes_on : (moves : Storage → Bool) (target : ℕ) (cs : List Column) (ns : List (Option ℕ)) (os : List Bool) (a : Candidate) → fits target cs ns os ≡ false → first_of None (candidates moves cs ns os) ≡ Some a
    → after_round moves target cs ns (set os a.place true) ≡ after_round moves target cs ns os
round_goes_on moves target cs ns os a misses e =
    let next = set os a.place true in
    let test : ℕ → Bool = λ count. fits target cs ns (with_first moves count cs ns os) in
    let more : (count : ℕ) → with_first moves count cs ns next ≡ with_first moves (count + 1) cs ns os = λ count. with_one_more moves count cs ns os a e in
    let needed : moves_needed moves target cs ns os ≡ suc (moves_needed moves target cs ns next) =
    ap (least test) (one_less moves cs ns os a e) ∙ least_suc test (length (candidates moves cs ns next)) (first_fits moves target cs ns os false misses)
    ∙ ap suc (sym (least_same (λ count. fits target cs ns (with_first moves count cs ns next)) (λ count. test (count + 1)) (length (candidates moves cs ns next)) (λ count. ap (fits target cs ns) (more count)))) in
    more (moves_needed moves target cs ns next) ∙ ap (λ (count : ℕ). with_first moves count cs ns os) (let same : moves_needed moves target cs ns next + 1 ≡ moves_needed moves target cs ns os = omega (arith, needed) in same)

best_stays : (best : Option Candidate) (all : List Candidate) → first_of best all ≡ None → (best ≡ None) × (all ≡ [])
best_stays best [] e = (e, refl)
best_stays None (a ∷ all) e = let p = best_stays (Some a) all e in absurd (let impossible : Some a ≡ None = p.0 in cc)
best_stays (Some b) (a ∷ all) e = let p = best_stays (Some (cond (goes_before a b) a b)) all e in absurd (let impossible : Some (cond (goes_before a b) a b) ≡ None = p.0 in cc)

-- where no candidate was found, there is none
pub round_ends : (moves : Storage → Bool) (target : ℕ) (cs : List Column) (ns : List (Option ℕ)) (os : List Bool) → None ≡ first_of None (candidates moves cs ns os) → after_round moves target cs ns os ≡ os
round_ends moves target cs ns os e = round_over moves target cs ns os (best_stays None (candidates moves cs ns os) (sym e)).1
