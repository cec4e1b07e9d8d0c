-- A list whose items are changed from the front on, one by one.
use Rattle.std.proofs.Common.{ℕ, zero, suc, ◌<◌, ◌≤◌, ◌≡◌, List, [], ◌∷◌, length, map, refl, ap, sym, subst, ◌∙◌, ◌+◌, add-one, arith, get_or, set, drop, Vec}
use Rattle.std.proofs.Math.Seq.{take-append_seam}
use Rattle.std.specs.Vec.{with_items}

-- the list after its first items were changed, so many
abbrev pub fronted : {X : Type 0} → (X → X) → ℕ → List X → List X
fronted f zero xs = xs
fronted f (suc i) [] = []
fronted f (suc i) (x ∷ xs) = f x ∷ fronted f i xs

pub fronted_all : {X : Type 0} (f : X → X) (i : ℕ) (xs : List X) → length xs ≤ i → fronted f i xs ≡ map f xs
fronted_all f zero [] most = refl
fronted_all f zero (x ∷ xs) most = absurd (omega arith)
fronted_all f (suc i) [] most = refl
fronted_all f (suc i) (x ∷ xs) most = ap (λ (ys : List _). f x ∷ ys) (fronted_all f i xs (omega arith))

set_next : {X : Type 0} (f : X → X) (i : ℕ) (xs : List X) (d : X) → i < length (fronted f i xs) → set (fronted f i xs) i (f (get_or (fronted f i xs) i d)) ≡ fronted f (suc i) xs
set_next f zero [] d within = refl
set_next f zero (x ∷ xs) d within = refl
set_next f (suc i) [] d within = refl
set_next f (suc i) (x ∷ xs) d within = ap (λ (ys : List _). f x ∷ ys) (set_next f i xs d (omega arith))

-- the step of a loop that sets the next item
pub fronted_more : {X : Type 0} (f : X → X) (i : ℕ) (xs now next : List X) (d y : X) → now ≡ fronted f i xs → i < length now → f (get_or now i d) ≡ y → next ≡ set now i y → next ≡ fronted f (i + 1) xs
fronted_more {X} f i xs now next d y front within changed is =
    rw add-one
    (is ∙ ap (set now i) (sym changed)
    ∙ subst (λ (ys : List X). set ys i (f (get_or ys i d)) ≡ fronted f (suc i) xs) (sym front)
    (set_next f i xs d (subst (λ (ys : List X). i < length ys) front within)))

-- the items of a vector that a loop over it wrote
pub written_items : {X Z : Type 0} (v : Vec X Z) (ws : List X) → length ws ≡ length v.items → (with_items v ws).items ≡ ws
written_items v ws same =
    let all : v.len ≡ length ws = omega (arith, v.ok.0) in
    rw all (take-append_seam ws (drop (length ws) v.items))

-- a loop over it that changed each
pub all_fronted : {X Z : Type 0} (f : X → X) (i : ℕ) (v : Vec X Z) (ws : List X) → length ws ≡ length v.items → length v.items ≤ i → ws ≡ fronted f i v.items → (with_items v ws).items ≡ map f v.items
all_fronted f i v ws same most front = written_items v ws same ∙ front ∙ fronted_all f i v.items most
