-- What a round leaves at each place.
use Rattle.std.proofs.Common.{◌≡◌, ◌≢◌, ℕ, zero, suc, ◌+◌, ◌<◌, ◌≤◌, Bool, true, false, not, ◌||◌, ◌&&◌, cond, ltb, List, [], ◌∷◌, length, Option, Some, None, inl, inr, refl, sym, ap, ◌∙◌, arith}
use Rattle.std.specs.Prelude.{count_by, slice_get}
use Rattle.std.specs.Option.{option_map_or}
use Rattle.std.proofs.Math.ListN.{set}
use Rattle.std.proofs.Math.Bool.{or-false}
use Rattle.std.proofs.lemmas.Bool.{and_left, and_right, and_parts, and_from, cases_Bool}
use Rattle.lo_base.specs.declared.column.Column.{Column}
use Rattle.lo_base.specs.declared.column.Storage.{Storage}
use Rattle.toast_plan.specs.Layout.{value_header}
use Rattle.toast_plan.specs.Choice.{Candidate, candidate_at, candidates_from, goes_before, place_in_order, with_moved_from, least}
use Rattle.toast_plan.proofs.RoundLaws.{waiting, IsIn, head_or_rest, rest_is_in, head_is_in, candidate_place, place_from, one_apart, count_cons, irreflexive, before-before}

-- a value that is a candidate of the round
pub record Waits (moves : Storage → Bool) (cs : List Column) (ns : List (Option ℕ)) (os : List Bool) (j bytes : ℕ) : Type 0 where
  pub column : Column
  pub at : slice_get cs j ≡ Some column
  pub storage : moves column.storage ≡ true
  pub length : slice_get ns j ≡ Some (Some bytes)
  pub inside : slice_get os j ≡ Some false
  pub big : ltb 24 (bytes + value_header column.storage bytes) ≡ true

is_candidate : (moves : Storage → Bool) (k : ℕ) (c : Column) (n : ℕ) (o : Bool) → moves c.storage ≡ true → ltb 24 (n + value_header c.storage n) ≡ true → o ≡ false → candidate_at moves k c (Some n) o ≡ Some (waiting k n)
is_candidate moves k c n o storage big inside =
    let all : (moves c.storage && ltb 24 (n + value_header c.storage n) && not o) ≡ true = and_from (moves c.storage && ltb 24 (n + value_header c.storage n)) (not o) (and_from (moves c.storage) (ltb 24 (n + value_header c.storage n)) storage big) (ap not inside) in
    rw all refl

pub is_no_candidate : (moves : Storage → Bool) (k : ℕ) (c : Column) (n : Option ℕ) (o : Bool) → moves c.storage ≡ false → candidate_at moves k c n o ≡ None
is_no_candidate moves k c None o other = refl
is_no_candidate moves k c (Some n) o other =
    let all : (moves c.storage && ltb 24 (n + value_header c.storage n) && not o) ≡ false = and_left (moves c.storage && ltb 24 (n + value_header c.storage n)) (not o) (and_left (moves c.storage) (ltb 24 (n + value_header c.storage n)) other) in
    rw all refl

pub record IsSuch (moves : Storage → Bool) (k : ℕ) (c : Column) (n : Option ℕ) (o : Bool) (a : Candidate) : Type 0 where
  pub made : a ≡ waiting k a.bytes
  pub storage : moves c.storage ≡ true
  pub length : n ≡ Some a.bytes
  pub inside : o ≡ false
  pub big : ltb 24 (a.bytes + value_header c.storage a.bytes) ≡ true

not_is_true : (o : Bool) → not o ≡ true → o ≡ false
not_is_true true e = absurd cc
not_is_true false e = refl

candidate_is : (moves : Storage → Bool) (k : ℕ) (c : Column) (n : Option ℕ) (o : Bool) (a : Candidate) → candidate_at moves k c n o ≡ Some a → IsSuch moves k c n o a
candidate_is moves k c None o a e = absurd cc
candidate_is moves k c (Some n) o a e =
    elim (cases_Bool (moves c.storage && ltb 24 (n + value_header c.storage n) && not o)) [
      | inl holds ↦
          let some : Some (waiting k n) ≡ Some a = rw holds at e in
          let same : waiting k n ≡ a = cc in
          let bytes : n ≡ a.bytes = ap (λ (x : Candidate). x.bytes) same in
          let outer = and_parts (moves c.storage && ltb 24 (n + value_header c.storage n)) (not o) holds in
          let inner = and_parts (moves c.storage) (ltb 24 (n + value_header c.storage n)) outer.0 in
          record {
            made = sym same ∙ ap (waiting k) bytes;
            storage = inner.0;
            length = ap (λ (x : ℕ). Some x) bytes;
            inside = not_is_true o outer.1;
            big = rw (← bytes) inner.1;
          }
      | inr misses ↦ absurd (let none : None ≡ Some a = rw misses at e in cc)
    ]

pub in_waits : (moves : Storage → Bool) (k j : ℕ) (cs : List Column) (ns : List (Option ℕ)) (os : List Bool) (a : Candidate) → IsIn (candidates_from moves k cs ns os) a → a.place ≡ k + j → Waits moves cs ns os j a.bytes
in_waits moves k j [] ns os a here at = absurd here
in_waits moves k j (c ∷ cs) [] os a here at = absurd here
in_waits moves k j (c ∷ cs) (n ∷ ns) [] a here at = absurd here
in_waits moves k zero (c ∷ cs) (n ∷ ns) (o ∷ os) a here at =
    elim (head_or_rest (candidate_at moves k c n o) (candidates_from moves (k + 1) cs ns os) a here) [
      | inl head ↦
          let such = candidate_is moves k c n o a head in
          record { column = c; at = refl; storage = such.storage; length = ap (λ (x : Option ℕ). Some x) such.length; inside = ap (λ (x : Bool). Some x) such.inside; big = such.big }
      | inr later ↦ absurd (omega (arith, place_from moves (k + 1) cs ns os a later))
    ]
in_waits moves k (suc j) (c ∷ cs) (n ∷ ns) (o ∷ os) a here at =
    elim (head_or_rest (candidate_at moves k c n o) (candidates_from moves (k + 1) cs ns os) a here) [
      | inl head ↦ absurd (omega (arith, candidate_place moves k c n o a head))
      | inr later ↦
          let w = in_waits moves (k + 1) j cs ns os a later (omega arith) in
          record { column = w.column; at = w.at; storage = w.storage; length = w.length; inside = w.inside; big = w.big }
    ]

-- the first value, where it waits
pub record HeadWaits (moves : Storage → Bool) (k : ℕ) (c : Column) (n : Option ℕ) (o : Bool) (a : Candidate) : Type 0 where
  pub head : candidate_at moves k c n o ≡ Some a
  pub inside : o ≡ false

head_waits : (moves : Storage → Bool) (k : ℕ) (c : Column) (cs : List Column) (n : Option ℕ) (ns : List (Option ℕ)) (o : Bool) (os : List Bool) (a : Candidate) → Waits moves (c ∷ cs) (n ∷ ns) (o ∷ os) zero a.bytes → a.place ≡ k + zero → HeadWaits moves k c n o a
head_waits moves k c cs n ns o os a w at =
    let column : Some c ≡ Some w.column = w.at in
    let same : w.column ≡ c = cc in
    let length : Some n ≡ Some (Some a.bytes) = w.length in
    let bytes : n ≡ Some a.bytes = cc in
    let inside : Some o ≡ Some false = w.inside in
    let o-is : o ≡ false = cc in
    let storage : moves c.storage ≡ true = rw (← same) w.storage in
    let big : ltb 24 (a.bytes + value_header c.storage a.bytes) ≡ true = rw (← same) w.big in
    let place : a.place ≡ k = omega arith in
    let made : waiting k a.bytes ≡ a = ap (λ (p : ℕ). waiting p a.bytes) (sym place) in
    record {
      head = ap (λ (x : Option ℕ). candidate_at moves k c x o) bytes ∙ is_candidate moves k c a.bytes o storage big o-is ∙ ap (λ (x : Candidate). Some x) made;
      inside = o-is;
    }

pub waits_in : (moves : Storage → Bool) (k j : ℕ) (cs : List Column) (ns : List (Option ℕ)) (os : List Bool) (a : Candidate) → Waits moves cs ns os j a.bytes → a.place ≡ k + j → IsIn (candidates_from moves k cs ns os) a
waits_in moves k j [] ns os a w at = absurd (let e : None ≡ Some w.column = w.at in cc)
waits_in moves k j (c ∷ cs) [] os a w at = absurd (let e : None ≡ Some (Some a.bytes) = w.length in cc)
waits_in moves k j (c ∷ cs) (n ∷ ns) [] a w at = absurd (let e : None ≡ Some false = w.inside in cc)
waits_in moves k zero (c ∷ cs) (n ∷ ns) (o ∷ os) a w at =
    head_is_in (candidate_at moves k c n o) (candidates_from moves (k + 1) cs ns os) a (head_waits moves k c cs n ns o os a w at).head
waits_in moves k (suc j) (c ∷ cs) (n ∷ ns) (o ∷ os) a w at =
    rest_is_in (candidate_at moves k c n o) (candidates_from moves (k + 1) cs ns os) a
    (waits_in moves (k + 1) j cs ns os a (record { column = w.column; at = w.at; storage = w.storage; length = w.length; inside = w.inside; big = w.big }) (omega arith))

-- a candidate is outside afterwards exactly where it passes the test
pub waits_moved : (p : Candidate → Bool) (moves : Storage → Bool) (k j : ℕ) (cs : List Column) (ns : List (Option ℕ)) (os : List Bool) (a : Candidate) → Waits moves cs ns os j a.bytes → a.place ≡ k + j → slice_get (with_moved_from p moves k cs ns os) j ≡ Some (p a)
waits_moved p moves k j [] ns os a w at = absurd (let e : None ≡ Some w.column = w.at in cc)
waits_moved p moves k j (c ∷ cs) [] os a w at = absurd (let e : None ≡ Some (Some a.bytes) = w.length in cc)
waits_moved p moves k j (c ∷ cs) (n ∷ ns) [] a w at = absurd (let e : None ≡ Some false = w.inside in cc)
waits_moved p moves k zero (c ∷ cs) (n ∷ ns) (o ∷ os) a w at =
    let h = head_waits moves k c cs n ns o os a w at in
    ap (λ (x : Option Candidate). Some (o || option_map_or p x false)) h.head ∙ ap (λ (b : Bool). Some (b || p a)) h.inside
waits_moved p moves k (suc j) (c ∷ cs) (n ∷ ns) (o ∷ os) a w at =
    waits_moved p moves (k + 1) j cs ns os a (record { column = w.column; at = w.at; storage = w.storage; length = w.length; inside = w.inside; big = w.big }) (omega arith)

-- a value of another round stays where it was
pub other_stays : (p : Candidate → Bool) (moves : Storage → Bool) (k j : ℕ) (cs : List Column) (ns : List (Option ℕ)) (os : List Bool) (c : Column) → slice_get cs j ≡ Some c → moves c.storage ≡ false → slice_get (with_moved_from p moves k cs ns os) j ≡ slice_get os j
other_stays p moves k j [] ns os d at other = refl
other_stays p moves k j (c ∷ cs) [] os d at other = refl
other_stays p moves k j (c ∷ cs) (n ∷ ns) [] d at other = refl
other_stays p moves k zero (c ∷ cs) (n ∷ ns) (o ∷ os) d at other =
    let column : Some c ≡ Some d = at in
    let same : d ≡ c = cc in
    let none : candidate_at moves k c n o ≡ None = is_no_candidate moves k c n o (rw (← same) other) in
    ap (λ (h : Option Candidate). Some (o || option_map_or p h false)) none ∙ ap (λ (b : Bool). Some b) (or-false o)
other_stays p moves k (suc j) (c ∷ cs) (n ∷ ns) (o ∷ os) d at other = other_stays p moves (k + 1) j cs ns os d at other

-- so does a null
pub null_stays : (p : Candidate → Bool) (moves : Storage → Bool) (k j : ℕ) (cs : List Column) (ns : List (Option ℕ)) (os : List Bool) → slice_get ns j ≡ Some None → slice_get (with_moved_from p moves k cs ns os) j ≡ slice_get os j
null_stays p moves k j [] ns os at = refl
null_stays p moves k j (c ∷ cs) [] os at = refl
null_stays p moves k j (c ∷ cs) (n ∷ ns) [] at = refl
null_stays p moves k zero (c ∷ cs) (n ∷ ns) (o ∷ os) at =
    let null : Some n ≡ Some None = at in
    let same : n ≡ None = cc in
    ap (λ (x : Option ℕ). Some (o || option_map_or p (candidate_at moves k c x o) false)) same ∙ ap (λ (b : Bool). Some b) (or-false o)
null_stays p moves k (suc j) (c ∷ cs) (n ∷ ns) (o ∷ os) at = null_stays p moves (k + 1) j cs ns os at

small_head : (moves : Storage → Bool) (k : ℕ) (c : Column) (n : Option ℕ) (o : Bool) (m : ℕ) → n ≡ Some m → ltb 24 (m + value_header c.storage m) ≡ false → candidate_at moves k c n o ≡ None
small_head moves k c None o m e small = refl
small_head moves k c (Some n) o m e small =
    let same : m ≡ n = cc in
    let all : (moves c.storage && ltb 24 (n + value_header c.storage n) && not o) ≡ false = and_left (moves c.storage && ltb 24 (n + value_header c.storage n)) (not o) (and_right (moves c.storage) (ltb 24 (n + value_header c.storage n)) (rw (← same) small)) in
    rw all refl

-- and a value that is too small
pub small_stays : (p : Candidate → Bool) (moves : Storage → Bool) (k j : ℕ) (cs : List Column) (ns : List (Option ℕ)) (os : List Bool) (c : Column) (m : ℕ) → slice_get cs j ≡ Some c → slice_get ns j ≡ Some (Some m) → ltb 24 (m + value_header c.storage m) ≡ false
    → slice_get (with_moved_from p moves k cs ns os) j ≡ slice_get os j
small_stays p moves k j [] ns os d m at length small = refl
small_stays p moves k j (c ∷ cs) [] os d m at length small = refl
small_stays p moves k j (c ∷ cs) (n ∷ ns) [] d m at length small = refl
small_stays p moves k zero (c ∷ cs) (n ∷ ns) (o ∷ os) d m at length small =
    let column : Some c ≡ Some d = at in
    let same : d ≡ c = cc in
    let value : Some n ≡ Some (Some m) = length in
    let n-is : n ≡ Some m = cc in
    let none : candidate_at moves k c n o ≡ None = small_head moves k c n o m n-is (rw (← same) small) in
    ap (λ (h : Option Candidate). Some (o || option_map_or p h false)) none ∙ ap (λ (b : Bool). Some b) (or-false o)
small_stays p moves k (suc j) (c ∷ cs) (n ∷ ns) (o ∷ os) d m at length small = small_stays p moves (k + 1) j cs ns os d m at length small

-- one candidate left inside, and the others by a test that agrees on them
pub leaves_one : (p q : Candidate → Bool) (moves : Storage → Bool) (k i : ℕ) (cs : List Column) (ns : List (Option ℕ)) (os : List Bool) (a : Candidate) → IsIn (candidates_from moves k cs ns os) a → a.place ≡ k + i → p a ≡ false
    → ((b : Candidate) → IsIn (candidates_from moves k cs ns os) b → b.place ≢ a.place → p b ≡ q b) → with_moved_from p moves k cs ns os ≡ set (with_moved_from q moves k cs ns os) i false
leaves_one p q moves k i cs ns os a here at fails same =
    one_apart p q moves k i cs ns os a here at same ∙ ap (set (with_moved_from q moves k cs ns os) i) fails

-- ---- places in the order

one_less_or_same : (p q : Bool) → (p ≡ true → q ≡ true) → cond {A = ℕ} p 1 0 ≤ cond {A = ℕ} q 1 0
one_less_or_same false q e = omega arith
one_less_or_same true q e = rw (e refl) (omega arith)

-- what goes before one that goes before another goes before that
pub count_less : (a b : Candidate) (all : List Candidate) → goes_before a b ≡ true → count_by (λ x. goes_before x a) all ≤ count_by (λ x. goes_before x b) all
count_less a b [] before = omega arith
count_less a b (x ∷ all) before =
    let here : cond {A = ℕ} (goes_before x a) 1 0 ≤ cond {A = ℕ} (goes_before x b) 1 0 = one_less_or_same (goes_before x a) (goes_before x b) (λ e. before-before x a b e before) in
    omega (arith, here, count_less a b all before, count_cons (λ x. goes_before x a) x all, count_cons (λ x. goes_before x b) x all)

-- an earlier candidate has a lower place
pub place_less : (a b : Candidate) (all : List Candidate) → IsIn all a → goes_before a b ≡ true → place_in_order all a < place_in_order all b
place_less a b [] here before = absurd here
place_less a b (x ∷ all) here before =
    elim here [
      | inl same ↦
          let own : cond {A = ℕ} (goes_before x a) 1 0 ≡ 0 = rw (same, irreflexive a) refl in
          let other : cond {A = ℕ} (goes_before x b) 1 0 ≡ 1 = rw (same, before) refl in
          omega (arith, own, other, count_less a b all before, count_cons (λ x. goes_before x a) x all, count_cons (λ x. goes_before x b) x all)
      | inr later ↦
          let here : cond {A = ℕ} (goes_before x a) 1 0 ≤ cond {A = ℕ} (goes_before x b) 1 0 = one_less_or_same (goes_before x a) (goes_before x b) (λ e. before-before x a b e before) in
          omega (arith, here, place_less a b all later before, count_cons (λ x. goes_before x a) x all, count_cons (λ x. goes_before x b) x all)
    ]

-- ---- the least number

pub least_fails : (test : ℕ → Bool) (limit n : ℕ) → n < least test limit → test n ≡ false
least_fails test zero n lt = absurd (omega arith)
least_fails test (suc limit) zero lt =
    elim (cases_Bool (test 0)) [
      | inl holds ↦ absurd (let e : least test (suc limit) ≡ 0 = rw holds refl in omega (arith, e, lt))
      | inr misses ↦ misses
    ]
least_fails test (suc limit) (suc n) lt =
    elim (cases_Bool (test 0)) [
      | inl holds ↦ absurd (let e : least test (suc limit) ≡ 0 = rw holds refl in omega (arith, e, lt))
      | inr misses ↦
          let e : least test (suc limit) ≡ suc (least (λ n. test (n + 1)) limit) = rw misses refl in
          let below : n < least (λ n. test (n + 1)) limit = omega (arith, e, lt) in
          let same : n + 1 ≡ suc n = omega arith in
          ap test (sym same) ∙ least_fails (λ n. test (n + 1)) limit n below
    ]

pub least_passes : (test : ℕ → Bool) (limit : ℕ) → least test limit < limit → test (least test limit) ≡ true
least_passes test zero lt = absurd (omega arith)
least_passes test (suc limit) lt =
    elim (cases_Bool (test 0)) [
      | inl holds ↦ let e : least test (suc limit) ≡ 0 = rw holds refl in ap test e ∙ holds
      | inr misses ↦
          let e : least test (suc limit) ≡ least (λ n. test (n + 1)) limit + 1 = rw misses (omega arith) in
          ap test e ∙ least_passes (λ n. test (n + 1)) limit (omega (arith, e, lt))
    ]
