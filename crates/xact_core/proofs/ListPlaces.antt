-- What a list has at a place after it was changed, and which places are among some.
use Rattle.std.proofs.Common.{ℕ, zero, suc, ◌+◌, ◌<◌, ◌≤◌, ◌≡◌, ◌≢◌, Bool, true, false, ◌⊎◌, List, [], ◌∷◌, ◌++◌, length, Option, Some, None, refl, ap, sym, subst, ◌∙◌, arith, length-set, take, drop, drop-cons}
use Rattle.std.specs.Prelude.{option_map, slice_get, slice_set, slice_index_or, ◌==◌, ◌||◌, if◌then◌else◌}
use Rattle.std.proofs.lemmas.Bool.{false≢true}
use Rattle.std.proofs.lemmas.Bool.Decides.{nat_tests}
use Rattle.std.proofs.lemmas.Grind.{common_steps}
use Rattle.std.proofs.lemmas.Option.{gets, slice_get_within, slice_get_read}
use Rattle.xact_core.specs.declared.fate.Fate.{Fate}
use Rattle.xact_core.specs.Fate.{turned_one, turned_at}
use Rattle.xact_core.specs.Inside.{is_among}

pub set_here : {A : Type 0} (xs : List A) (i : ℕ) (v : A) → i < length xs → slice_get (slice_set xs i v) i ≡ Some v
set_here xs i v within = grind (arith, common_steps, gets)

pub set_other : {A : Type 0} (xs : List A) (i j : ℕ) (v : A) → i ≢ j → slice_get (slice_set xs i v) j ≡ slice_get xs j
set_other xs i j v apart = grind (arith, common_steps, gets)

pub append_in : {A : Type 0} (xs : List A) (x : A) (i : ℕ) → i < length xs → slice_get (xs ++ x ∷ []) i ≡ slice_get xs i
append_in xs x i within = grind (arith, common_steps, gets)

pub append_here : {A : Type 0} (xs : List A) (x : A) → slice_get (xs ++ x ∷ []) (length xs) ≡ Some x
append_here xs x = grind (arith, common_steps, gets)

-- what there is at a place of a list with one element more
pub append_cases : {A : Type 0} (xs : List A) (x y : A) (i : ℕ) → slice_get (xs ++ x ∷ []) i ≡ Some y → (slice_get xs i ≡ Some y) ⊎ ((i ≡ length xs) × (y ≡ x))
append_cases xs x y i is = grind (arith, common_steps, gets)

one_at : (f : Fate → Fate) (i j : ℕ) (fates : List Fate) (o : Option Fate) → slice_get fates i ≡ o → (b : Bool) → (i == j) ≡ b → slice_get (turned_one f i o fates) j ≡ (if b then option_map f (slice_get fates j) else slice_get fates j)
one_at f i j fates None is true same = let e : i ≡ j = grind (arith, nat_tests) in subst (λ (n : ℕ). slice_get fates n ≡ option_map f (slice_get fates n)) e (rw is refl)
one_at f i j fates None is false same = refl
one_at f i j fates (Some x) is true same =
    let e : i ≡ j = grind (arith, nat_tests) in
    let within : i < length fates = slice_get_within fates i x is in
    subst (λ (n : ℕ). slice_get (slice_set fates i (f x)) n ≡ option_map f (slice_get fates n)) e (set_here fates i (f x) within ∙ sym (ap (option_map f) is))
one_at f i j fates (Some x) is false same = let e : i ≢ j = grind (arith, nat_tests) in set_other fates i j (f x) e

pub turned_one_get : (f : Fate → Fate) (i : ℕ) (fates : List Fate) (j : ℕ) → slice_get (turned_one f i (slice_get fates i) fates) j ≡ (if i == j then option_map f (slice_get fates j) else slice_get fates j)
turned_one_get f i fates j = one_at f i j fates (slice_get fates i) refl (i == j) refl

twice : (f : Fate → Fate) → ((x : Fate) → f (f x) ≡ f x) → (o : Option Fate) → option_map f (option_map f o) ≡ option_map f o
twice f idempotent None = refl
twice f idempotent (Some x) = ap Some (idempotent x)

-- one more turning of what is turned, or not, by the places so far
joined : (f : Fate → Fate) → ((x : Fate) → f (f x) ≡ f x) → (o : Option Fate) (a b : Bool) → (if b then option_map f (if a then option_map f o else o) else (if a then option_map f o else o)) ≡ (if a || b then option_map f o else o)
joined f idempotent o true true = twice f idempotent o
joined f idempotent o true false = refl
joined f idempotent o false true = refl
joined f idempotent o false false = refl

pub turned_at_get : (f : Fate → Fate) → ((x : Fate) → f (f x) ≡ f x) → (is : List ℕ) (fates : List Fate) (j : ℕ) → slice_get (turned_at f is fates) j ≡ (if is_among is j then option_map f (slice_get fates j) else slice_get fates j)
turned_at_get f idempotent [] fates j = refl
turned_at_get f idempotent (i ∷ is) fates j = rw (turned_at_get f idempotent is (turned_one f i (slice_get fates i) fates) j, turned_one_get f i fates j) (joined f idempotent (slice_get fates j) (i == j) (is_among is j))

length-one : (f : Fate → Fate) (i : ℕ) (fates : List Fate) (o : Option Fate) → length (turned_one f i o fates) ≡ length fates
length-one f i fates None = refl
length-one f i fates (Some x) = length-set fates i (f x)

pub length-turned_at : (f : Fate → Fate) (is : List ℕ) (fates : List Fate) → length (turned_at f is fates) ≡ length fates
length-turned_at f [] fates = refl
length-turned_at f (i ∷ is) fates = length-turned_at f is (turned_one f i (slice_get fates i) fates) ∙ length-one f i fates (slice_get fates i)

-- one more of the places, at which the fate is read and written
pub turned_next : (f : Fate → Fate) (places : List ℕ) (n : ℕ) (fates target : List Fate) (v : Fate) → n < length places → slice_index_or places n 0 < length fates → v ≡ slice_index_or fates (slice_index_or places n 0) v → turned_at f (drop n places) fates ≡ target → turned_at f (drop (n + 1) places) (slice_set fates (slice_index_or places n 0) (f v)) ≡ target
turned_next f places n fates target v more within read so_far =
    let place : ℕ = slice_index_or places n 0 in
    let is : slice_get fates place ≡ Some v = slice_get_read fates (length fates) place v refl within read in
    let next : suc n ≡ n + 1 = omega arith in
    let front : drop n places ≡ place ∷ drop (n + 1) places = subst (λ (m : ℕ). drop n places ≡ place ∷ drop m places) next (drop-cons places n 0 more) in
    let step : turned_at f (place ∷ drop (n + 1) places) fates ≡ target = subst (λ (ps : List ℕ). turned_at f ps fates ≡ target) front so_far in
    subst (λ (o : Option Fate). turned_at f (drop (n + 1) places) (turned_one f place o fates) ≡ target) is step

-- Which places are among some

-- one test or another
pub or_false : (b : Bool) → (b || false) ≡ b
or_false true = refl
or_false false = refl

pub or_true : (a b : Bool) → b ≡ true → (a || b) ≡ true
or_true true b is = refl
or_true false b is = is

pub among_both : (xs ys : List ℕ) (i : ℕ) → is_among (xs ++ ys) i ≡ (is_among xs i || is_among ys i)
among_both [] ys i = refl
among_both (x ∷ xs) ys i = rw (among_both xs ys i) (joined_left (x == i) (is_among xs i) (is_among ys i))
  where
    joined_left : (a b c : Bool) → (a || (b || c)) ≡ ((a || b) || c)
    joined_left true b c = refl
    joined_left false b c = refl

pub among_push : (xs : List ℕ) (n i : ℕ) → is_among (xs ++ n ∷ []) i ≡ (is_among xs i || (n == i))
among_push xs n i = among_both xs (n ∷ []) i ∙ ap (λ (b : Bool). is_among xs i || b) (or_false (n == i))

-- what is among the places from one on is among all
pub among_drop : (n : ℕ) (xs : List ℕ) (i : ℕ) → is_among (drop n xs) i ≡ true → is_among xs i ≡ true
among_drop zero xs i here = here
among_drop (suc n) [] i here = here
among_drop (suc n) (x ∷ xs) i here = or_true (x == i) (is_among xs i) (among_drop n xs i here)

-- the place at an index is among those from a lower one on
pub among_from : (n m : ℕ) (xs : List ℕ) → n ≤ m → m < length xs → is_among (drop n xs) (slice_index_or xs m 0) ≡ true
among_from n m [] less within = absurd (omega arith)
among_from zero zero (x ∷ xs) less within = first (x == x) (grind (arith, nat_tests)) (is_among xs x)
  where
    first : (b : Bool) → b ≡ true → (c : Bool) → (b || c) ≡ true
    first true is c = refl
    first false is c = absurd (false≢true is)
among_from zero (suc m) (x ∷ xs) less within = or_true (x == slice_index_or xs m 0) _ (among_from zero m xs (omega arith) (omega arith))
among_from (suc n) zero (x ∷ xs) less within = absurd (omega arith)
among_from (suc n) (suc m) (x ∷ xs) less within = among_from n m xs (omega arith) (omega arith)

-- one more of the first elements
pub take_more : {A : Type 0} (n : ℕ) (xs : List A) (d : A) → n < length xs → take (n + 1) xs ≡ take n xs ++ slice_index_or xs n d ∷ []
take_more n [] d within = absurd (omega arith)
take_more zero (x ∷ xs) d within = refl
take_more {A} (suc n) (x ∷ xs) d within =
    let next : suc n + 1 ≡ suc (n + 1) = omega arith in
    ap (λ (m : ℕ). take m (x ∷ xs)) next ∙ ap (λ (ys : List A). x ∷ ys) (take_more n xs d (omega arith))

pub index_take : (n k : ℕ) (xs : List ℕ) → k < n → slice_index_or (take n xs) k 0 ≡ slice_index_or xs k 0
index_take zero k xs lower = absurd (omega arith)
index_take (suc n) k [] lower = refl
index_take (suc n) zero (x ∷ xs) lower = refl
index_take (suc n) (suc k) (x ∷ xs) lower = index_take n k xs (omega arith)
