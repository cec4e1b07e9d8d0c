-- Lists that are the same but for their order stay so when one view is taken from both.
use Rattle.std.proofs.Common.{ℕ, suc, ◌<◌, ◌≡◌, ◌⊎◌, inl, inr, Bool, true, false, List, [], ◌∷◌, length, refl, ap, sym, ◌∙◌, arith, get_or}
use Rattle.std.specs.Prelude.{◌==◌, ◌&&◌, IsPermutation, remove, sum_by, if◌then◌else◌}
use Rattle.std.proofs.lemmas.Bool.{cases_eq}
use Rattle.std.proofs.lemmas.Bool.Decides.{nat_tests}
use Rattle.std.proofs.lemmas.List.Sorted.{IsPermutation-refl, IsPermutation-sym, IsPermutation-cons, IsPermutation-trans, IsPermutation-remove, sum_by-IsPermutation}
use Rattle.std.proofs.lemmas.List.Sums.{sum_by-cons, sum_by-remove}
use Rattle.lo_model.specs.declared.viewer.Viewer.{Viewer}
use Rattle.lo_model.specs.declared.viewer.Viewer.TheVariants.{Nobody, Whole, Below}
use Rattle.xact_core.specs.declared.snapshot.Snapshot.{Snapshot}
use Rattle.xact_core.specs.Kept.{view_at}

same_viewer : Viewer → Viewer → Bool
same_viewer Nobody Nobody = true
same_viewer (Whole s) (Whole t) = s == t
same_viewer (Below s l) (Below t k) = (s == t) && (l == k)
same_viewer Nobody (Whole t) = false
same_viewer Nobody (Below t k) = false
same_viewer (Whole s) Nobody = false
same_viewer (Whole s) (Below t k) = false
same_viewer (Below s l) Nobody = false
same_viewer (Below s l) (Whole t) = false

viewer_is : (a b : Viewer) → same_viewer a b ≡ true → a ≡ b
unfolding same_viewer
viewer_is Nobody Nobody same = refl
viewer_is (Whole s) (Whole t) same = let is : s ≡ t = grind (arith, nat_tests) in ap Whole is
viewer_is (Below s l) (Below t k) same = let first : s ≡ t = grind (arith, nat_tests) in let second : l ≡ k = grind (arith, nat_tests) in cc
viewer_is Nobody (Whole t) same = absurd (cc)
viewer_is Nobody (Below t k) same = absurd (cc)
viewer_is (Whole s) Nobody same = absurd (cc)
viewer_is (Whole s) (Below t k) same = absurd (cc)
viewer_is (Below s l) Nobody same = absurd (cc)
viewer_is (Below s l) (Whole t) same = absurd (cc)

viewer_itself : (a : Viewer) → same_viewer a a ≡ true
unfolding same_viewer
viewer_itself Nobody = refl
viewer_itself (Whole s) = grind (arith, nat_tests)
viewer_itself (Below s l) = grind (arith, nat_tests)

same : Snapshot → Snapshot → Bool
same a b = (a.clock == b.clock) && same_viewer a.viewer b.viewer

same_is : (a b : Snapshot) → same a b ≡ true → a ≡ b
unfolding same
same_is a b alike =
    let clock : a.clock ≡ b.clock = grind (arith, nat_tests) in
    let test : same_viewer a.viewer b.viewer ≡ true = grind (arith, nat_tests) in
    ap (λ (at : ℕ). view_at at a.viewer) clock ∙ ap (view_at b.clock) (viewer_is a.viewer b.viewer test)

same_itself : (a : Snapshot) → same a a ≡ true
unfolding same
same_itself a = let viewer = viewer_itself a.viewer in grind (arith, nat_tests)

-- how often a list has a view
one : Snapshot → Snapshot → ℕ
one a b = if same a b then 1 else 0

one_itself : (a : Snapshot) → one a a ≡ 1
unfolding one
one_itself a = rw (same_itself a)

record FindsIn (a : Snapshot) (xs : List Snapshot) : Type 0 where
  index : ℕ
  within : index < length xs
  is : a ≡ get_or xs index a

one_is : (a b : Snapshot) → 0 < one a b → a ≡ b
unfolding one
one_is a b some = by_test (same a b) refl
  where
    by_test : (t : Bool) → same a b ≡ t → a ≡ b
    by_test true alike = same_is a b alike
    by_test false apart = absurd (let none : one a b ≡ 0 = rw apart in omega arith)

find_in : (a : Snapshot) (xs : List Snapshot) → 0 < sum_by (one a) xs → FindsIn a xs
find_in a [] some = absurd (omega arith)
find_in a (x ∷ xs) some = by_test (cases_eq (one a x) 0) (find_in a xs)
  where
    by_test : (one a x ≡ 0) ⊎ (one a x ≡ 0 → ⊥) → (0 < sum_by (one a) xs → FindsIn a xs) → FindsIn a (x ∷ xs)
    by_test (inl none) later = let found : FindsIn a xs = later (omega (arith, sum_by-cons (one a) x xs)) in record { index = suc found.index; within = omega (arith, found.within); is = found.is }
    by_test (inr some') later = record { index = 0; within = omega arith; is = one_is a x (omega arith) }

from_counts : (xs ys : List Snapshot) → ((a : Snapshot) → sum_by (one a) xs ≡ sum_by (one a) ys) → IsPermutation xs ys
from_counts [] [] counts = IsPermutation-refl []
from_counts [] (y ∷ ys) counts = absurd (let there : one y y ≡ 1 = one_itself y in omega (arith, counts y, sum_by-cons (one y) y ys))
from_counts (x ∷ xs) ys counts =
    let there : one x x ≡ 1 = one_itself x in
    let found : FindsIn x ys = find_in x ys (omega (arith, counts x, sum_by-cons (one x) x xs)) in
    IsPermutation-trans (x ∷ xs) (x ∷ remove ys found.index) ys
    (IsPermutation-cons x xs (remove ys found.index) (from_counts xs (remove ys found.index) (λ a.
    let here : one a (get_or ys found.index x) ≡ one a x = ap (one a) (sym found.is) in
    omega (arith, counts a, sum_by-cons (one a) x xs, sum_by-remove (one a) ys found.index x found.within))))
    (IsPermutation-sym ys (x ∷ remove ys found.index) (IsPermutation-remove ys found.index x found.within found.is))

-- of two lists that begin alike
pub cancelled : (a : Snapshot) (xs ys : List Snapshot) → IsPermutation (a ∷ xs) (a ∷ ys) → IsPermutation xs ys
cancelled a xs ys both = from_counts xs ys (λ b. omega (arith, sum_by-cons (one b) a xs, sum_by-cons (one b) a ys, sum_by-IsPermutation (one b) (a ∷ xs) (a ∷ ys) both))
