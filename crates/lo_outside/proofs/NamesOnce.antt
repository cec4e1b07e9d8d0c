-- No two files of a folder in memory have one name: what keeps that, and what follows where a file is taken out.
use Rattle.std.proofs.Common.{◌≡◌, ◌≢◌, ◌+◌, ◌≤◌, ◌<◌, ℕ, suc, List, [], ◌∷◌, ◌++◌, Bool, true, false, cond, refl, sym, ap, ◌∙◌, Option, Some, None, find, length, set, get_or, take, drop, arith, position, take-append-drop}
use Rattle.std.specs.Option.{option_or}
use Rattle.std.specs.List.{count_by, remove}
use Rattle.std.proofs.lemmas.Option.{none-some}
use Rattle.std.proofs.lemmas.List.Folds.{find-append}
use Rattle.std.proofs.lemmas.List.Sums.{sum_by-cons, sum_by_push, sum_by-set, sum_by-remove}
use Rattle.std.proofs.lemmas.List.{drop_more}
use Rattle.std.proofs.lemmas.Slice.Eq.{bytes_eq-Decides}
use Rattle.std.specs.Str.{bytes_eq}
use Rattle.lo_outside.specs.Place.{Held, has_name}
use Rattle.lo_outside.proofs.SettingBytes.{no_find}

abbrev one_if : {X : Type 0} → (X → Bool) → X → ℕ
one_if p x = cond (p x) 1 0

none_counted : {X : Type 0} (p : X → Bool) (xs : List X) → find p xs ≡ None → count_by p xs ≡ 0
none_counted p [] none = refl
none_counted {X} p (x ∷ xs) none = sum_by-cons (one_if p) x xs ∙ by (p x) none (none_counted p xs)
  where
    by : (b : Bool) → cond b (Some x) (find p xs) ≡ None → (find p xs ≡ None → count_by p xs ≡ 0) → cond b 1 0 + count_by p xs ≡ 0
    by true e rest = absurd (none-some x (sym e))
    by false e rest = let zero : count_by p xs ≡ 0 = rest e in omega (arith, zero)

none_left : {X : Type 0} (p : X → Bool) (xs : List X) → count_by p xs ≡ 0 → find p xs ≡ None
none_left p [] zero = refl
none_left {X} p (x ∷ xs) zero = by (p x) (sym (sum_by-cons (one_if p) x xs) ∙ zero) (none_left p xs)
  where
    by : (b : Bool) → cond b 1 0 + count_by p xs ≡ 0 → (count_by p xs ≡ 0 → find p xs ≡ None) → cond b (Some x) (find p xs) ≡ None
    by true e rest = absurd (omega (arith, e))
    by false e rest = rest (omega (arith, e))

-- a change that keeps the file's name
pub single_set : (old : List Held) (i : ℕ) (d place : Held) → i < length old → place.named.name ≡ (get_or old i d).named.name → ((name : List ℕ) → count_by (has_name name) old ≤ 1) → (name : List ℕ) → count_by (has_name name) (set old i place) ≤ 1
single_set old i d place within same single name =
    let all : count_by (has_name name) (set old i place) + one_if (has_name name) (get_or old i d) ≡ count_by (has_name name) old + one_if (has_name name) place = sum_by-set (one_if (has_name name)) old i place d within in
    let one : one_if (has_name name) place ≡ one_if (has_name name) (get_or old i d) = ap (λ n. cond (bytes_eq n name) 1 0) same in
    let most : count_by (has_name name) old ≤ 1 = single name in
    omega (arith, all, one, most)

-- a file of a name that no file had
pub single_push : (old : List Held) (place : Held) (name : List ℕ) → None ≡ position (has_name name) old → place.named.name ≡ name → ((other : List ℕ) → count_by (has_name other) old ≤ 1) → (other : List ℕ) → count_by (has_name other) (old ++ place ∷ []) ≤ 1
single_push old place name none called single other =
    let all : count_by (has_name other) (old ++ place ∷ []) ≡ count_by (has_name other) old + one_if (has_name other) place = sum_by_push (one_if (has_name other)) old place in
    let small : count_by (has_name other) old + one_if (has_name other) place ≤ 1 = by (has_name other place) (count_by (has_name other) old) (λ passes. none_counted (has_name other) old (no_find old other (none ∙ ap (λ n. position (has_name n) old) (sym called ∙ (bytes_eq-Decides place.named.name other).0 passes)))) (single other) in
    omega (arith, all, small)
  where
    by : (b : Bool) (count : ℕ) → (b ≡ true → count ≡ 0) → count ≤ 1 → count + cond b 1 0 ≤ 1
    by true count zero most = let none : count ≡ 0 = zero refl in omega (arith, none)
    by false count zero most = omega (arith, most)

-- a file that is taken out
pub single_remove : (old : List Held) (i : ℕ) (d : Held) → i < length old → ((name : List ℕ) → count_by (has_name name) old ≤ 1) → (name : List ℕ) → count_by (has_name name) (remove old i) ≤ 1
single_remove old i d within single name =
    let all : count_by (has_name name) (remove old i) + one_if (has_name name) (get_or old i d) ≡ count_by (has_name name) old = sum_by-remove (one_if (has_name name)) old i d within in
    let most : count_by (has_name name) old ≤ 1 = single name in
    omega (arith, all, most)

-- the name of a file that is taken out is no file's then
pub removed_find : (old : List Held) (i : ℕ) (d : Held) (name : List ℕ) → i < length old → has_name name (get_or old i d) ≡ true → ((other : List ℕ) → count_by (has_name other) old ≤ 1) → find (has_name name) (remove old i) ≡ None
removed_find old i d name within passes single =
    let all : count_by (has_name name) (remove old i) + one_if (has_name name) (get_or old i d) ≡ count_by (has_name name) old = sum_by-remove (one_if (has_name name)) old i d within in
    let one : one_if (has_name name) (get_or old i d) ≡ 1 = ap (λ b. cond b 1 0) passes in
    let most : count_by (has_name name) old ≤ 1 = single name in
    let zero : count_by (has_name name) (remove old i) ≡ 0 = omega (arith, all, one, most) in
    none_left (has_name name) (remove old i) zero

-- every other name finds what it found
pub other_find : (old : List Held) (i : ℕ) (d : Held) (name : List ℕ) → i < length old → has_name name (get_or old i d) ≡ false → find (has_name name) (remove old i) ≡ find (has_name name) old
other_find old i d name within fails =
    let whole : find (has_name name) old ≡ option_or (find (has_name name) (take i old)) (find (has_name name) (drop i old)) = ap (find (has_name name)) (sym (take-append-drop i old)) ∙ find-append (has_name name) (take i old) (drop i old) in
    let step : i + 1 ≡ suc i = omega arith in
    let rest : find (has_name name) (drop i old) ≡ find (has_name name) (drop (suc i) old) = ap (find (has_name name)) (drop_more old i d within ∙ ap (λ n. get_or old i d ∷ drop n old) step) ∙ ap (λ b. cond b (Some (get_or old i d)) (find (has_name name) (drop (suc i) old))) fails in
    find-append (has_name name) (take i old) (drop (suc i) old) ∙ sym (whole ∙ ap (option_or (find (has_name name) (take i old))) rest)
