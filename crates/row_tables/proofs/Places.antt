-- Each of some things: of the one at a place, of lists that are joined, and of numbers that differ.
use Rattle.std.proofs.Common.{◌≡◌, ◌≢◌, ℕ, zero, suc, ◌+◌, ◌<◌, Bool, true, false, ◌==◌, ◌||◌, List, [], ◌∷◌, ◌++◌, length, take, get_or, refl, sym, ap, subst, ◌∙◌, arith}
use Rattle.std.proofs.lemmas.Bool.{or_from, false≢true}
use Rattle.std.proofs.lemmas.Bool.Decides.{nat_tests}
use Rattle.std.proofs.lemmas.List.{take_more}
use Rattle.std.proofs.lemmas.List.Folds.{list_any-append}
use Rattle.row_versions.specs.Count.{Different}
use Rattle.row_versions.specs.Stack.{Each}
use Rattle.row_tables.specs.Cells.{is_among}

pub each_at : {X : Type 0} (P : X → Type 0) (xs : List X) (i : ℕ) (x : X) → Each P xs → i < length xs → x ≡ get_or xs i x → P x
each_at P [] i x h less is = absurd (omega (arith, less))
each_at P (y ∷ ys) zero x h less is = subst P (sym is) h.0
each_at P (y ∷ ys) (suc i) x h less is = each_at P ys i x h.1 (omega (arith, less)) is

pub apart_test : (m n : ℕ) → m ≢ n → (m == n) ≡ false
apart_test m n apart = grind (arith, nat_tests, apart)

pub test_apart : (m n : ℕ) → (m == n) ≡ false → m ≢ n
test_apart m n test same = grind (arith, nat_tests, test, same)

-- of different numbers, none stands among those before it
pub new_at : (ns : List ℕ) (i n : ℕ) → Different ns → i < length ns → n ≡ get_or ns i n → is_among (take i ns) n ≡ false
new_at [] i n h less is = absurd (omega (arith, less))
new_at (m ∷ ms) zero n h less is = refl
new_at (m ∷ ms) (suc i) n h less is = or_from (m == n) (is_among (take i ms) n) (apart_test m n (each_at (λ b. m ≢ b) ms i n h.0 (omega (arith, less)) is)) (new_at ms i n h.1 (omega (arith, less)) is)

-- one number more
pub among_more : (ns : List ℕ) (n m : ℕ) → is_among (ns ++ n ∷ []) m ≡ (is_among ns m || is_among (n ∷ []) m)
among_more ns n m = list_any-append (λ k. k == m) ns (n ∷ [])

pub among_earlier : (ns : List ℕ) (n m : ℕ) → n ≢ m → is_among (ns ++ n ∷ []) m ≡ true → is_among ns m ≡ true
among_earlier ns n m apart is = by_test (is_among ns m) (sym (among_more ns n m) ∙ is)
  where
    by_test : (b : Bool) → (b || is_among (n ∷ []) m) ≡ true → b ≡ true
    by_test true h = refl
    by_test false h = absurd (false≢true (sym (or_from (n == m) false (apart_test n m apart) refl) ∙ h))

pub among_no_more : (ns : List ℕ) (n m : ℕ) → is_among (ns ++ n ∷ []) m ≡ false → (is_among ns m ≡ false) × (m ≢ n)
among_no_more ns n m none = by_test (is_among ns m) (n == m) refl (sym (among_more ns n m) ∙ none)
  where
    by_test : (a b : Bool) → (n == m) ≡ b → (a || (b || false)) ≡ false → (a ≡ false) × (m ≢ n)
    by_test true b is h = absurd (false≢true (sym h))
    by_test false true is h = absurd (false≢true (sym h))
    by_test false false is h = (refl, λ same. test_apart n m is (sym same))

pub take_next : {X : Type 0} (xs : List X) (i : ℕ) (x : X) → i < length xs → x ≡ get_or xs i x → take (i + 1) xs ≡ take i xs ++ x ∷ []
take_next xs i x less is = take_more xs i x less ∙ ap (λ y. take i xs ++ y ∷ []) (sym is)
