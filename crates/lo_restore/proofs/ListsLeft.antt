-- What is left of a list behind the item that a loop stands at, and at its end.
use Rattle.std.proofs.Common.{◌≡◌, ◌<◌, ◌≤◌, ℕ, zero, suc, ◌+◌, List, [], ◌∷◌, length, get_or, drop, refl, ap, sym, subst, ◌∙◌, arith, drop-cons}

pub next_left : {X : Type 0} (xs ys : List X) (i : ℕ) (x : X) → ys ≡ xs → i < length ys → x ≡ get_or ys i x → drop i xs ≡ x ∷ drop (i + 1) xs
next_left {X} xs ys i x same within is =
    let low : i < length xs = subst (λ (l : List X). i < length l) same within in
    let at : x ≡ get_or xs i x = is ∙ ap (λ (l : List X). get_or l i x) same in
    let more : suc i ≡ i + 1 = omega arith in
    drop-cons xs i x low ∙ (ap (λ (y : X). y ∷ drop (suc i) xs) (sym at) ∙ ap (λ (n : ℕ). x ∷ drop n xs) more)

pub next_got : {X : Type 0} (xs : List X) (i : ℕ) (d : X) → i < length xs → drop i xs ≡ get_or xs i d ∷ drop (i + 1) xs
next_got xs i d within =
    let more : suc i ≡ i + 1 = omega arith in
    drop-cons xs i d within ∙ ap (λ (n : ℕ). get_or xs i d ∷ drop n xs) more

pub none_left : {X : Type 0} (xs : List X) (i : ℕ) → length xs ≤ i → drop i xs ≡ []
none_left [] zero past = refl
none_left [] (suc i) past = refl
none_left (x ∷ xs) zero past = absurd (omega (arith, past))
none_left (x ∷ xs) (suc i) past = none_left xs i (omega (arith, past))

pub nothing_left : {X : Type 0} (xs ys : List X) (i : ℕ) → ys ≡ xs → length ys ≤ i → drop i xs ≡ []
nothing_left {X} xs ys i same past = none_left xs i (subst (λ (l : List X). length l ≤ i) same past)
