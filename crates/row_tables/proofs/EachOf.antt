-- Each of some things: joined and filtered lists, tests of numbers, and members.
use Rattle.std.proofs.Common.{ℕ, ◌≡◌, ◌≢◌, Bool, true, false, List, [], ◌∷◌, ◌++◌, filter, refl, ap, sym, subst, ◌∙◌}
use Rattle.std.specs.Prelude.{◌==◌, ◌||◌, ◌&&◌, if◌then◌else◌}
use Rattle.std.specs.List.{list_any}
use Rattle.std.proofs.lemmas.Bool.{false≢true, eqb-true, eq-eqb, ne_eqb}
use Rattle.row_versions.specs.Stack.{Each, Pairwise}
use Rattle.row_tables.specs.Cells.{is_among}

-- lists

pub cons_same : {X : Type 0} (x y : X) (xs ys : List X) → x ≡ y → xs ≡ ys → x ∷ xs ≡ y ∷ ys
cons_same {X} x y xs ys e f = ap (λ (z : X). z ∷ xs) e ∙ ap (λ (zs : List X). y ∷ zs) f

pub each_append : {X : Type 0} (P : X → Type 0) (xs ys : List X) → Each P xs → Each P ys → Each P (xs ++ ys)
each_append P [] ys h k = k
each_append P (x ∷ xs) ys h k = (h.0, each_append P xs ys h.1 k)

pub each_left : {X : Type 0} (P : X → Type 0) (xs ys : List X) → Each P (xs ++ ys) → Each P xs
each_left P [] ys h = tt
each_left P (x ∷ xs) ys h = (h.0, each_left P xs ys h.1)

pub each_right : {X : Type 0} (P : X → Type 0) (xs ys : List X) → Each P (xs ++ ys) → Each P ys
each_right P [] ys h = h
each_right P (x ∷ xs) ys h = each_right P xs ys h.1

pub each_filter : {X : Type 0} (P : X → Type 0) (test : X → Bool) (xs : List X) → Each P xs → Each P (filter test xs)
each_filter P test [] h = tt
each_filter {X} P test (x ∷ xs) h = by_test (test x) h.0 (each_filter P test xs h.1)
  where
    by_test : (b : Bool) → P x → Each P (filter test xs) → Each P (if b then x ∷ filter test xs else filter test xs)
    by_test true p rest = (p, rest)
    by_test false p rest = rest

pub pairwise_filter : {X : Type 0} (R : X → X → Type 0) (test : X → Bool) (xs : List X) → Pairwise R xs → Pairwise R (filter test xs)
pairwise_filter R test [] h = tt
pairwise_filter {X} R test (x ∷ xs) h = by_test (test x) (each_filter (R x) test xs h.0) (pairwise_filter R test xs h.1)
  where
    by_test : (b : Bool) → Each (R x) (filter test xs) → Pairwise R (filter test xs) → Pairwise R (if b then x ∷ filter test xs else filter test xs)
    by_test true first rest = (first, rest)
    by_test false first rest = rest

pub pairwise_join : {X : Type 0} (R : X → X → Type 0) (xs ys : List X) → Pairwise R xs → Each (λ (x : X). Each (R x) ys) xs → Pairwise R ys → Pairwise R (xs ++ ys)
pairwise_join R [] ys h across k = k
pairwise_join R (x ∷ xs) ys h across k = (each_append (R x) xs ys h.0 across.0, pairwise_join R xs ys h.1 across.1 k)

pub pairwise_right : {X : Type 0} (R : X → X → Type 0) (xs ys : List X) → Pairwise R (xs ++ ys) → Pairwise R ys
pairwise_right R [] ys h = h
pairwise_right R (x ∷ xs) ys h = pairwise_right R xs ys h.1

pub pairwise_across : {X : Type 0} (R : X → X → Type 0) (xs ys : List X) → Pairwise R (xs ++ ys) → Each (λ (x : X). Each (R x) ys) xs
pairwise_across R [] ys h = tt
pairwise_across R (x ∷ xs) ys h = (each_right (R x) xs ys h.0, pairwise_across R xs ys h.1)

-- tests

pub or_false : (b : Bool) → (b || false) ≡ b
or_false true = refl
or_false false = refl

pub or_swap : (a b c d : Bool) → ((a || b) || (c || d)) ≡ ((a || c) || (b || d))
or_swap true b c d = refl
or_swap false true true d = refl
or_swap false true false d = refl
or_swap false false c d = refl

pub or_none : (a b : Bool) → a ≡ false → b ≡ false → (a || b) ≡ false
or_none true b e f = absurd (false≢true (sym e))
or_none false b e f = f

pub any_append : {X : Type 0} (test : X → Bool) (xs ys : List X) → list_any test (xs ++ ys) ≡ (list_any test xs || list_any test ys)
any_append test [] ys = refl
any_append {X} test (x ∷ xs) ys = by_first (test x) (any_append test xs ys)
  where
    by_first : (b : Bool) → list_any test (xs ++ ys) ≡ (list_any test xs || list_any test ys) → (b || list_any test (xs ++ ys)) ≡ ((b || list_any test xs) || list_any test ys)
    by_first true rest = refl
    by_first false rest = rest

-- members of a list of numbers

-- what holds of each holds of a member
pub among_of : (P : ℕ → Type 0) (ns : List ℕ) (n : ℕ) → Each P ns → is_among ns n ≡ true → P n
among_of P [] n h here = absurd (false≢true here)
among_of P (m ∷ ns) n h here = by_test (m == n) refl here (among_of P ns n h.1)
  where
    by_test : (b : Bool) → (m == n) ≡ b → (b || is_among ns n) ≡ true → (is_among ns n ≡ true → P n) → P n
    by_test true at there left = subst P (eqb-true m n at) h.0
    by_test false at there left = left there

-- what holds of all members holds of each
pub among_each : (P : ℕ → Type 0) (ns : List ℕ) → ((n : ℕ) → is_among ns n ≡ true → P n) → Each P ns
among_each P [] h = tt
among_each P (m ∷ ns) h = (h m (ap (λ (b : Bool). b || is_among ns m) (eq-eqb m m refl)), among_each P ns (λ n there. h n (later (m == n) (is_among ns n) there)))
  where
    later : (a b : Bool) → b ≡ true → (a || b) ≡ true
    later true b there = refl
    later false b there = there

-- a number that is different from each is no member
pub not_among : (ns : List ℕ) (n : ℕ) → Each (λ (m : ℕ). m ≢ n) ns → is_among ns n ≡ false
not_among [] n h = refl
not_among (m ∷ ns) n h = or_none (m == n) (is_among ns n) (ne_eqb m n h.0) (not_among ns n h.1)

-- the members that pass a test
pub among_filter : (test : ℕ → Bool) (ns : List ℕ) (n : ℕ) → is_among (filter test ns) n ≡ (is_among ns n && test n)
among_filter test [] n = refl
among_filter test (m ∷ ns) n = by_same (m == n) refl (among_filter test ns n)
  where
    here : (b : Bool) → test n ≡ b → is_among (filter test ns) n ≡ (is_among ns n && test n) → (m == n) ≡ true → is_among (if b then m ∷ filter test ns else filter test ns) n ≡ test n
    here true at rest is = ap (λ (c : Bool). c || is_among (filter test ns) n) is ∙ sym at
    here false at rest is = rest ∙ ap (λ (c : Bool). is_among ns n && c) at ∙ and_no (is_among ns n) ∙ sym at
      where
        and_no : (c : Bool) → (c && false) ≡ false
        and_no true = refl
        and_no false = refl

    there : (b : Bool) → is_among (filter test ns) n ≡ (is_among ns n && test n) → (m == n) ≡ false → is_among (if b then m ∷ filter test ns else filter test ns) n ≡ (is_among ns n && test n)
    there true rest other = ap (λ (c : Bool). c || is_among (filter test ns) n) other ∙ rest
    there false rest other = rest

    by_same : (b : Bool) → (m == n) ≡ b → is_among (filter test ns) n ≡ (is_among ns n && test n) → is_among (filter test (m ∷ ns)) n ≡ (((m == n) || is_among ns n) && test n)
    by_same true at rest =
        let same : m ≡ n = eqb-true m n at in
        subst (λ (b : Bool). is_among (if b then m ∷ filter test ns else filter test ns) n ≡ test n) (sym (ap test same)) (here (test n) refl rest at) ∙ sym (ap (λ (b : Bool). (b || is_among ns n) && test n) at)
    by_same false at rest = there (test m) rest at ∙ sym (ap (λ (b : Bool). (b || is_among ns n) && test n) at)
