-- A list of elements that grows at both ends: nulls in its free places, and the elements behind them.
use Rattle.std.proofs.Common.{◌≡◌, ◌+◌, ◌-◌, ◌<◌, ◌≤◌, ℕ, ℤ, List, ◌∷◌, ◌++◌, length, max, take, drop, replicate, Option, None, ap, sym, ◌∙◌, arith}
use Rattle.std.specs.Prelude.{set}
use Rattle.std.proofs.lemmas.List.{length-append, length-drop, length-replicate, take-append-drop, take-append-le, drop-append-le, take_all, take_at, take-set, take-set-le, drop-set, drop-set-add, take-replicate, drop-replicate}

-- the places before the elements are free
abbrev pub HasFree : ℕ → List (Option ℤ) → Type 0
HasFree free items = items ≡ replicate free None ++ drop free items

free_within : (f : ℕ) (xs es : List (Option ℤ)) → xs ≡ replicate f None ++ es → length xs ≡ f + length es
free_within f xs es h = ap length h ∙ length-append (replicate f None) es ∙ ap (λ n. n + length es) (length-replicate {A = Option ℤ} f None)

free_front : (f : ℕ) (xs : List (Option ℤ)) → take f xs ≡ replicate f None → HasFree f xs
free_front f xs h = sym (take-append-drop f xs) ∙ ap (λ front. front ++ drop f xs) h

-- ---- above the first

-- the elements once there are so many at least
pub longer : (xs ys : List (Option ℤ)) (f k n : ℕ) → HasFree f xs → n ≡ max (length xs) (f + k + 1) → ys ≡ take n xs ++ replicate (n - length xs) None → drop f ys ≡ drop f xs ++ replicate (k + 1 - length (drop f xs)) None
longer xs ys f k n h m e =
    let within : f ≤ length xs = omega (arith, free_within f xs (drop f xs) h) in
    let more : n - length xs ≡ k + 1 - length (drop f xs) = omega (arith, length-drop f xs) in
    ap (drop f) (e ∙ ap (λ t. t ++ replicate (n - length xs) None) (take_all n xs (omega arith)))
    ∙ drop-append-le f xs (replicate (n - length xs) None) within ∙ ap (λ j. drop f xs ++ replicate j None) more

pub above_is : (xs ys : List (Option ℤ)) (f k n : ℕ) (v : Option ℤ) → HasFree f xs → n ≡ max (length xs) (f + k + 1) → ys ≡ take n xs ++ replicate (n - length xs) None → drop f (set ys (f + k) v) ≡ set (drop f xs ++ replicate (k + 1 - length (drop f xs)) None) k v
above_is xs ys f k n v h m e = drop-set-add f ys k v ∙ ap (λ es. set es k v) (longer xs ys f k n h m e)

pub above_free : (xs ys : List (Option ℤ)) (f k n : ℕ) (v : Option ℤ) → HasFree f xs → n ≡ max (length xs) (f + k + 1) → ys ≡ take n xs ++ replicate (n - length xs) None → HasFree f (set ys (f + k) v)
above_free xs ys f k n v h m e =
    let within : f ≤ length xs = omega (arith, free_within f xs (drop f xs) h) in
    free_front f (set ys (f + k) v)
    (take-set-le f ys (f + k) v (omega arith)
    ∙ ap (take f) (e ∙ ap (λ t. t ++ replicate (n - length xs) None) (take_all n xs (omega arith)))
    ∙ take-append-le f xs (replicate (n - length xs) None) within
    ∙ ap (take f) h ∙ take_at (replicate f None) (drop f xs) f (length-replicate {A = Option ℤ} f None))

-- ---- below the first

pub below_is : (xs es : List (Option ℤ)) (f b n : ℕ) (v : Option ℤ) → xs ≡ replicate f None ++ es → 0 < b → n + b ≡ f → drop n (set xs n v) ≡ v ∷ (replicate (b - 1) None ++ es)
below_is xs es f b n v h some e =
    let long : n + 1 ≤ length (replicate {A = Option ℤ} f None) = omega (arith, length-replicate {A = Option ℤ} f None) in
    let left : f - (n + 1) ≡ b - 1 = omega arith in
    drop-set xs n v (omega (arith, free_within f xs es h))
    ∙ ap (λ ys. v ∷ ys) (ap (drop (n + 1)) h ∙ drop-append-le (n + 1) (replicate f None) es long
    ∙ ap (λ ys. ys ++ es) (drop-replicate (n + 1) f None ∙ ap (λ k. replicate k None) left))

pub below_free : (xs es : List (Option ℤ)) (f b n : ℕ) (v : Option ℤ) → xs ≡ replicate f None ++ es → n + b ≡ f → HasFree n (set xs n v)
below_free xs es f b n v h e =
    free_front n (set xs n v)
    (take-set xs n v ∙ ap (take n) h
    ∙ take-append-le n (replicate f None) es (omega (arith, length-replicate {A = Option ℤ} f None))
    ∙ take-replicate n f None (omega arith))
